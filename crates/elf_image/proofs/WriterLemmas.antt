-- The steps of the writer.
use Rattle.std.proofs.Common.{◌≡◌, ℕ, ◌+◌, ◌<◌, ◌≤◌, suc, List, [], ◌∷◌, ◌++◌, length, get_or, drop, refl, sym, ap, ◌∙◌, append_assoc, append-nil, add-one}
use Rattle.std.proofs.Math.Seq.{drop-cons}
use Rattle.std.proofs.Math.ListN.{drop_of_length-le}
use Rattle.lf_model.specs.declared.image.Segment.{Segment}
use Rattle.elf_image.specs.Written.{program_header, program_headers, flags_of}

-- the header of a segment
abbrev pub header_of : ℕ → Segment → List ℕ
header_of place s = program_header place s.addr (length s.bytes) s.size (flags_of s)

pub headers_first : (place : ℕ) (s : Segment) (ss : List Segment)
    → program_headers place (s ∷ ss) ≡ header_of place s ++ program_headers (place + length s.bytes) ss
unfolding program_headers
headers_first place s ss = refl

pub headers_none : (place : ℕ) → program_headers place [] ≡ []
unfolding program_headers
headers_none place = refl

-- one header more
pub headers_more : (segments : List Segment) (i place : ℕ) (s : Segment) (file file' all : List ℕ) → i < length segments
    → s ≡ get_or segments i s → file ++ program_headers place (drop i segments) ≡ all → file' ≡ file ++ header_of place s
    → file' ++ program_headers (place + length s.bytes) (drop (i + 1) segments) ≡ all
headers_more segments i place s file file' all below is before push =
    let left = drop (i + 1) segments in
    let split : drop i segments ≡ s ∷ left = rw add-one (drop-cons segments i s below ∙ ap (λ x. x ∷ drop (suc i) segments) (sym is)) in
    ap (λ f. f ++ program_headers (place + length s.bytes) left) push
    ∙ append_assoc file (header_of place s) (program_headers (place + length s.bytes) left)
    ∙ ap (λ h. file ++ h) (sym (headers_first place s left) ∙ ap (program_headers place) (sym split))
    ∙ before

-- all headers
pub headers_all : (segments : List Segment) (i place : ℕ) (file all : List ℕ) → length segments ≤ i
    → file ++ program_headers place (drop i segments) ≡ all → file ≡ all
headers_all segments i place file all past before =
    sym (append-nil file)
    ∙ ap (λ h. file ++ h) (sym (ap (program_headers place) (drop_of_length-le segments past) ∙ headers_none place))
    ∙ before
