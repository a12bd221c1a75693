use Rattle.std.proofs.Common.{◌≡◌, ◌∙◌, inl, inr, ⊎_elim, sym, subst, ℕ, true}
use Rattle.std.specs.Ordering.{nat_cmp}
use Rattle.std.specs.BTreeSet.{contains}
use Rattle.std.proofs.lemmas.Bool.{cases_eq}
use Rattle.node_record.proofs.Adding.{apart}
use Rattle.node_record.proofs.tables.put_view.Goals as goal

pub returns-clause-one_more : goal.returns-clause-one_more
returns-clause-one_more c = λ u. elim (cases_eq c.args.view u) [
  | inl here ↦ (λ there. inr here, λ was. subst (λ (q : ℕ). contains nat_cmp c.insert.new.self q ≡ true) here c.in_ok-insert.ensures.updates.1)
  | inr other ↦
      let same = c.in_ok-insert.ensures.updates.2 u (apart c.args.view u other) in
      (λ there. inl (sym same ∙ there), λ was. ⊎_elim (λ old. same ∙ old) (λ is. absurd (other is)) was)
]
