use Rattle.std.specs.Prelude.{◌&&◌}
use Rattle.std.proofs.Common.{◌≡◌, ◌∙◌, sym, ap, Bool, true}
use Rattle.simplex_resolver.specs.declared.ask.Kind.TheVariants as kind
use Rattle.simplex_resolver.specs.Answers.{is_settled}
use Rattle.simplex_resolver.proofs.state.State.key_settled.Goals as goal

pub returns-then-settled : goal.returns-then-settled
returns-then-settled c = λ views h k.
    let first : is_settled views h c.args.view kind.Nullification ≡ true = sym (c.settled.ensures views h k) ∙ c.if-settled.true in
    c.settled-then-settled.ensures views h k ∙ ap (λ (b : Bool). b && is_settled views h c.args.view kind.Notarization) (sym first)
