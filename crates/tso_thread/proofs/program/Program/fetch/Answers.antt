use Rattle.std.proofs.Common.{◌≡◌, ◌-◌, ℕ, slice_index, List, arith, subst}
use Rattle.lf_model.specs.Start.{ram_first, number_at}
use Rattle.tso_thread.proofs.TextInRam.{fetched_in_ram, fetched_word}
use Rattle.tso_thread.proofs.program.Program.fetch.Goals as goal

pub overflow_sub-pc : goal.overflow_sub-pc
overflow_sub-pc c =
    let p = c.args.self.now in
    (fetched_in_ram p.setup.now.config.ram c.args.pc p.text p.setup.now.image c.is_text_word.result p.text_is p.loads c.is_text_word.ensures c.if-is_text_word.true).low

pub word_at-requires : goal.word_at-requires
word_at-requires c =
    let p = c.args.self.now in
    omega (
      arith,
      (fetched_in_ram p.setup.now.config.ram c.args.pc p.text p.setup.now.image c.is_text_word.result p.text_is p.loads c.is_text_word.ensures c.if-is_text_word.true).high,
      c.deref.ensures.len,
      p.size,
    )

pub returns-then-is_text_word : goal.returns-then-is_text_word
returns-then-is_text_word c =
    let p = c.args.self.now in
    record {
      word =
          fetched_word p.setup.now.config.ram c.args.pc c.word_at.result p.text p.setup.now.image p.bytes.items c.is_text_word.result p.text_is p.loads c.is_text_word.ensures
          c.if-is_text_word.true p.bytes_are (subst (λ (bytes : List ℕ). c.word_at.result ≡ number_at (slice_index bytes) (c.args.pc - ram_first) 4) c.deref.ensures.value c.word_at.ensures);
    }
