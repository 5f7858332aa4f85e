-- The members passed are known.
use Rattle.std.proofs.Common.{◌≡◌}
use Rattle.std.specs.List.{list_all}
use Rattle.toml.specs.View.{members_view}
use Rattle.run_texts.specs.Document.{is_known, entries_of}
use Rattle.run_texts.proofs.document.has_known_keys.Given as goal

abbrev pub invariant-loop-section : goal.invariant-loop-section
invariant-loop-section l =
    list_all is_known (entries_of (members_view l.section-iterator)) ≡ list_all is_known (entries_of (members_view l.document.entries))
