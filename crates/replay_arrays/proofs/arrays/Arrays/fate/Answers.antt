use Rattle.replay_arrays.proofs.FateLemmas.{register_flip, tag_flip, line_flip}
use Rattle.replay_arrays.proofs.arrays.Arrays.fate.Goals as goal

pub returns-in-Reg : goal.returns-in-Reg
returns-in-Reg c =
    let this = rw (← c.self.view_is, c.in-Reg.is) at c.requires.flip in
    let own = rw (← c.self.view_is, c.in-Reg.is) at c.requires.core in
    rw (← c.self.view_is, c.in-Reg.is)
    (register_flip c.self.inside c.self.invariant c.args.number c.fate.result c.in-Reg.core c.in-Reg.step c.in-Reg.cell c.in-Reg.bit this own c.fate.ensures.struck c.fate.ensures.late)

pub returns-in-Tag : goal.returns-in-Tag
returns-in-Tag c =
    let flip = c.in-Tag in
    let this = rw (← c.self.view_is, c.in-Tag.is) at c.requires.flip in
    let own = rw (← c.self.view_is, c.in-Tag.is) at c.requires.core in
    let late = rw (← c.self.view_is) at c.fate_in.ensures.late in
    let struck = rw (← c.self.view_is) at c.fate_in.ensures.tag in
    rw (← c.self.view_is, c.in-Tag.is)
    (tag_flip c.self.inside c.self.invariant c.args.number c.fate_in.result flip.fetch late flip.core flip.step flip.way flip.set flip.byte flip.bit this own struck)

pub returns-in-Line : goal.returns-in-Line
returns-in-Line c =
    let flip = c.in-Line in
    let this = rw (← c.self.view_is, c.in-Line.is) at c.requires.flip in
    let own = rw (← c.self.view_is, c.in-Line.is) at c.requires.core in
    let late = rw (← c.self.view_is) at c.fate_in-in-Line.ensures.late in
    let struck = rw (← c.self.view_is) at c.fate_in-in-Line.ensures.line in
    rw (← c.self.view_is, c.in-Line.is)
    (line_flip c.self.inside c.self.invariant c.args.number c.fate_in-in-Line.result flip.fetch late flip.core flip.step flip.way flip.set flip.byte flip.bit this own struck)
