use Rattle.std.proofs.Common.{ℕ, ◌≤◌, ◌+◌, subst, arith}
use Rattle.simplex_member.specs.Laws.{raises}
use Rattle.simplex_member.proofs.Allowing.{begun-allowed}
use Rattle.simplex_member.proofs.Lone.{any-raises}
use Rattle.simplex_member.proofs.Raising.{of-several, step-raises}
use Rattle.simplex_member.proofs.laws.steps_raise_little.Goals as goal

pub returns : goal.returns
returns g c = record {
  all = λ f s exact h end points more e rounds some waits by goes step further exactly.
      subst (λ (n : ℕ). raises g.S.Scheme f s h more ≤ n + 2) exactly.count_is
      (any-raises g.S.Scheme f s c.records_obey.ensures (c.rounds_obey.ensures f exact) (λ x certificate certifies. g.met.S.Listing.backed s.voter.scheme x certificate certifies) c.what_is_known_is_recorded.ensures c.what_is_recorded_is_known.ensures
      some waits by h (begun-allowed g.S.Scheme f s points h goes) e more end step further exactly.numbers (λ x is. (exactly.exact x).1 is));
  of_several = λ f s exact h end points more e rounds several goes step further exactly.
      subst (λ (n : ℕ). raises g.S.Scheme f s h more ≤ n + 2) exactly.count_is
      (step-raises g.S.Scheme f s c.records_obey.ensures (c.rounds_obey.ensures f exact) (λ x certificate certifies. g.met.S.Listing.backed s.voter.scheme x certificate certifies) (omega (arith, several))
      (λ x listed quorate. of-several (g.S.Scheme.size s.voter.scheme) s.me (λ i b. g.S.Scheme.attests s.voter.scheme i x b) listed several quorate)
      h (begun-allowed g.S.Scheme f s points h goes) e more end step further exactly.numbers (λ x up. (exactly.exact x).1 up));
}
