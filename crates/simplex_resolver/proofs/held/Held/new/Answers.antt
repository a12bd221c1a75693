use Rattle.std.proofs.Common.{refl, arith}
use Rattle.std.specs.Prelude.{nat_lt}
use Rattle.types_core.specs.Positions.{term_end}
use Rattle.simplex_resolver.proofs.Choices.{if_either}
use Rattle.simplex_resolver.proofs.held.Held.new.Goals as goal

pub returns : goal.returns
returns c =
    let nullifications = c.new.ensures.empty in
    let known = c.new-3.ensures.empty in
    let certified = c.new-4.ensures.empty in
    let failed = c.new-5.ensures.empty in
    record {
      some = c.requires;
      length_is = refl;
      finalized_is = c.zero.ensures;
      finalization_is = refl;
      nullifications = λ u. rw (nullifications, if_either (nat_lt 0 (term_end c.args.length u))) refl;
      cut = λ v some low. absurd (omega (arith, some, low));
      covered_is = λ v above. (λ is. absurd (c.new-2.ensures v is), λ e. absurd (grind (arith, e)));
      known = λ v. rw known (grind arith);
      certified_is = λ v. rw (certified, if_either (nat_lt 0 v)) refl;
      failed = λ v. rw failed (grind arith);
    }
