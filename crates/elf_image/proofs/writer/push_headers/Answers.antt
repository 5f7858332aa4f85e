use Rattle.std.proofs.Common.{◌≡◌, ◌≤◌, ◌^◌, ◌++◌, length, arith, ◌∙◌, ap}
use Rattle.elf_image.proofs.WriterLemmas.{header_of, headers_more, headers_all}
use Rattle.elf_image.proofs.writer.push_headers.Goals as goal

pub loop-segment-preserved : goal.loop-segment-preserved
loop-segment-preserved c =
    let s = c.segment-item.result in
    let place = c.loop-segment.place in
    let file = c.loop-segment.file.items in
    let most = c.requires.short c.loop-segment.segment-index s c.loop-segment-test.true in
    let short : length s.bytes ≤ 2 ^ 24 = rw (← c.segment-item.is) at most in
    let size = c.len-size.ensures.length in
    let header : c.program_header-header.result ≡ header_of place s = c.program_header-header.ensures ∙ cc in
    record {
      headers = rw size (headers_more c.args.segments.now c.loop-segment.segment-index place s file c.extend_from_slice.new.self.items _
          c.loop-segment-test.true c.segment-item.is c.loop-segment.invariant.headers
          (c.in_ok-extend_from_slice.ensures.items ∙ ap (λ h. file ++ h) header));
      small = omega arith;
    }

pub returns : goal.returns
returns c = headers_all c.args.segments.now c.loop-segment.segment-index c.loop-segment.place c.loop-segment.file.items _ c.loop-segment-test.false c.loop-segment.invariant.headers
