use Rattle.std.proofs.Common.{◌≡◌, refl, ap, ◌∙◌, arith}
use Rattle.types_terms.specs.Terms.{Timing}
use Rattle.voter_rounds.specs.Laws.{Shows-same}
use Rattle.voter_views.specs.Views.{Keeps}
use Rattle.voter_views.proofs.views.Views.new.Goals as goal

pub returns : goal.returns
unfolding Keeps
returns g c =
    let length : c.new.result.length ≡ (g.L.Elector.terms_of c.args.elector).length = c.new.ensures.length ∙ ap (λ (t : Timing). t.length) c.terms-terms.ensures in
    let optimistic : c.new.result.optimistic_views ≡ (g.L.Elector.terms_of c.args.elector).optimistic_views = c.new.ensures.optimistic_views ∙ ap (λ (t : Timing). t.optimistic_views) c.terms-terms.ensures in
    record {
      scheme = refl;
      me = refl;
      epoch = refl;
      length = c.new-2.ensures.length ∙ ap (λ (t : Timing). t.length) c.terms-terms.ensures;
      optimistic_views = c.new-2.ensures.optimistic_views ∙ ap (λ (t : Timing). t.optimistic_views) c.terms-terms.ensures;
      retention = refl;
      mode = refl;
      elects = λ view x. refl;
      members = λ view x. g.met.L.Elector.participants_lead c.args.elector _ _ x c.requires;
      progress = record {
        view = c.zero.ensures;
        leader_timeout = refl;
        certification_timeout = refl;
        stall_timeout = c.stall_timeout.ensures.value ∙ ap (λ (t : Timing). t.stall_timeout) c.terms-terms.ensures;
        tracked = rw (← c.in_ok-shared.ensures.cases, ← length, ← optimistic) c.new-tracked.ensures;
      };
      last_finalized = c.zero-2.ensures;
      behind = omega arith;
      begun = (c.new-3.ensures.floor, c.new-3.ensures.blank);
      genesis = refl;
      coverage = λ view. (λ is. absurd (c.new-4.ensures view is), λ there. absurd (cc there.2));
      backed = Shows-same _ _ _ c.new-5.ensures (λ u. refl);
      waiting = Shows-same _ _ _ c.new-6.ensures (λ u. refl);
      nullified = Shows-same _ _ _ c.new-7.ensures (λ u. refl);
      nullifications = λ view. rw c.new-8.ensures.empty refl;
    }
