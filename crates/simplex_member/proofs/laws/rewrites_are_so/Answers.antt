use Rattle.simplex_member.proofs.Kept.{dropped-unknown, rewrite-is}
use Rattle.simplex_member.proofs.laws.rewrites_are_so.Goals as goal

pub returns : goal.returns
returns g c = record {
  rewrites = λ f s h x a. rewrite-is g.S.Scheme f s (λ views r y last. c.a_rewritten_record_is_lawful.ensures.same views r y last) h x a;
  dropped = λ f s h x view ok all low. dropped-unknown g.S.Scheme f s c.what_is_known_is_recorded.ensures h x view ok all low;
}
