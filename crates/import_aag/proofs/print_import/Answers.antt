-- `import_aag::print_import` meets its contract: where no byte is written, none is due.
use Rattle.std.proofs.Common.{◌∙◌, sym, subst}
use Rattle.std.specs.Io.KnownBytes.{Appends}
use Rattle.std.proofs.KnownBytes.{Appends-nil}
use Rattle.std.proofs.lemmas.List.{nil_from_length}
use Rattle.import_aag.proofs.print_import.Goals as goal

pub returns-then-bytes-eq0 : goal.returns-then-bytes-eq0
returns-then-bytes-eq0 g c = λ all. subst (Appends _ _) (sym (nil_from_length _ (sym c.write_output-bytes.ensures.text.counted ∙ c.if-bytes-eq0.true))) (Appends-nil _)
