use Rattle.std.proofs.Common.{ℕ, List, subst, ◌∙◌}
use Rattle.std.proofs.lemmas.Option.{IfSome_then}
use Rattle.std.proofs.lemmas.Result.{IfErr-weaker}
use Rattle.cli_file.specs.Filed.{TellsRefused}
use Rattle.cli_file.proofs.file.read_file.Goals as goal

pub returns-in-Ok-Some-clause-refused : goal.returns-in-Ok-Some-clause-refused
returns-in-Ok-Some-clause-refused g c =
    let whole = rw c.in-Ok-Some.field-0-is at c.in-Ok-Some.ensures.whole in
    IfErr-weaker c.read_bytes.result _ _
    (λ status told is. IfSome_then (g.R.Read.remaining c.args.input.now) whole
    (λ bytes same. subst (λ (text : List ℕ). TellsRefused text (g.F.Write.contents c.args.faults.now) (g.F.Write.contents c.read_bytes.new.faults))
    (c.deref.ensures.value ∙ same) (told is)))
    c.read_bytes.ensures.refused
