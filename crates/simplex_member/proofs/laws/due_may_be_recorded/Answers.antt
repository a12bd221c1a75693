use Rattle.simplex_member.proofs.Allowing.{begun-allowed}
use Rattle.simplex_member.proofs.Binding.{due-bound}
use Rattle.simplex_member.proofs.Following.{any-finalize, any-nullify, any-vote}
use Rattle.simplex_member.proofs.Judgeable.{verdict-may}
use Rattle.simplex_member.proofs.laws.due_may_be_recorded.Goals as goal

pub returns : goal.returns
returns g c = record {
  finalize = λ f s h points v goes due. any-finalize g.S.Scheme f s c.what_is_known_is_recorded.ensures c.what_is_due_may_be_recorded.ensures.finalize h (begun-allowed g.S.Scheme f s points h goes) v due;
  nullify = λ f s h points v goes due. any-nullify g.S.Scheme f s c.what_is_known_is_recorded.ensures c.what_is_due_may_be_recorded.ensures.nullify h (begun-allowed g.S.Scheme f s points h goes) v due;
  verdict = λ f s h points r goes epoch awaited. verdict-may g.S.Scheme f s c.what_is_known_is_recorded.ensures h (begun-allowed g.S.Scheme f s points h goes) r epoch awaited;
  votes = λ f s exact h points v goes due. any-vote g.S.Scheme f s c.what_is_known_is_recorded.ensures c.what_is_due_may_be_recorded.ensures.notarize c.what_is_due_may_be_recorded.ensures.finalize c.what_is_due_may_be_recorded.ensures.nullify
      (λ h points view p goes due holds. due-bound g.S.Scheme f s (c.rounds_obey.ensures f exact) h (begun-allowed g.S.Scheme f s points h goes) view p due holds) h points v goes due;
}
