-- The three lists of a member go on together.
use Rattle.std.proofs.Common.{◌≡◌, ⊎_elim, ℕ, ◌<◌, List, [], ◌∷◌, ◌++◌, sym, ap, subst, arith}
use Rattle.std.specs.List.{Contains}
use Rattle.std.proofs.lemmas.List.{map-append}
use Rattle.std.proofs.lemmas.List.Elements.{Contains-append_left, Contains-push, Contains-push_cases}
use Rattle.types_core.specs.declared.position.Round.{Round}
use Rattle.types_core.specs.Subject.{Statement, notarize, nullify, finalize}
use Rattle.messages_certificates.specs.declared.artifact.Artifact.{Artifact}
use Rattle.messages_certificates.specs.declared.artifact.Artifact.TheVariants as artifact
use Rattle.messages_certificates.specs.ProposalCertificate.{Finalization}
use Rattle.simplex_record.specs.declared.owner.Owner.{Owner}
use Rattle.simplex_record.specs.Record.{Entry, voted, taken, judged, entry, entries, last_finalized, floor}
use Rattle.simplex_record.specs.Rules.{MayEverFollow}
use Rattle.simplex_record.specs.Lawful.{Fits, nothing, further, rewrote, rewritten}
use Rattle.simplex_record.specs.Kept.{StandsForAll, IsFrom, IsBehind, AreOfOneMember}
use Rattle.simplex_record.proofs.Keeping.{from-left}
use Rattle.simplex_record.proofs.Soundness.{kept-sound, ever-fits, entries-left}

module _ {D : Type 0} where
  -- what may follow all, by what was opened, may follow all by what is kept of that, behind the floor of what is kept
  kept-follows : (views : ℕ) (ever opened kept : List (Entry D)) → StandsForAll views ever opened → StandsForAll views ever kept → ((e : Entry D) → Contains kept e → Contains opened e)
      → (e : Entry D) → IsBehind (floor kept) e → MayEverFollow views ever opened e → MayEverFollow views ever kept e
  kept-follows views ever opened kept so sk within (voted (notarize p)) behind may = record { may = may.may; from_floor = may.from_floor; behind_kept = behind }
  kept-follows views ever opened kept so sk within (voted (nullify r)) behind may = may
  kept-follows views ever opened kept so sk within (voted (finalize p)) behind may = may
  kept-follows views ever opened kept so sk within (taken s) behind may = record {
    from_one = may.from_one;
    room = may.room;
    parent_below = may.parent_below;
    first = λ t like here. may.first t like (within (taken t) here);
  }
  kept-follows views ever opened kept so sk within (judged r verdict) behind may = record {
    notarized = (
      may.notarized.0,
      may.notarized.1,
      sk.above (taken (notarize may.notarized.0)) (so.within (taken (notarize may.notarized.0)) may.notarized.2)
          (omega (arith, behind, ap (λ (t : Round). t.view) may.notarized.1)),
    );
    first = λ t ok same here. may.first t ok same (within (judged t ok) here);
  }

  within-further : (opened kept : List (Entry D)) (e : Entry D) → ((x : Entry D) → Contains kept x → Contains opened x) → (x : Entry D) → Contains (kept ++ e ∷ []) x → Contains (opened ++ e ∷ []) x
  within-further opened kept e within x here = ⊎_elim
      (λ old. Contains-append_left opened (e ∷ []) x (within x old))
      (λ new. subst (λ (y : Entry D). Contains (opened ++ e ∷ []) y) new (Contains-push opened e))
      (Contains-push_cases kept e x here)

module _ {S D P G C : Type 0} {attests : ℕ → Statement D → G → Type 0} {certifies : Statement D → C → Type 0} {owner : Owner} where
  pub nothing-yet : AreOfOneMember {S = S} {P = P} attests certifies owner [] [] []
  nothing-yet = record { opened_is = nothing; kept_is = nothing; within = λ e here. here }

  -- an opening begins with what is kept
  pub opens-on : (ever opened kept : List (Artifact S D P G C)) → AreOfOneMember attests certifies owner ever opened kept → AreOfOneMember attests certifies owner ever kept kept
  opens-on ever opened kept are = record { opened_is = are.kept_is; kept_is = are.kept_is; within = λ e here. here }

  -- a rewrite leaves the other two
  pub rewrites-on : (ever opened kept : List (Artifact S D P G C)) (c : Finalization S D P G C) → AreOfOneMember attests certifies owner ever opened kept → Contains kept (artifact.Finalization c) → c.proposal.round.view ≡ last_finalized (entries kept)
      → (inside : Contains (entries opened) (taken (finalize c.proposal))) → AreOfOneMember attests certifies owner ever opened (rewritten owner.term_length c kept)
  rewrites-on ever opened kept c are there last inside = record {
    opened_is = are.opened_is;
    kept_is = rewrote c are.kept_is there last;
    within = λ e here. ⊎_elim
        (λ first. subst (λ (y : Entry D). Contains (entries opened) y) first inside)
        (λ old. are.within e old.0)
        (from-left owner.term_length c.proposal (entries kept) e (subst (λ (l : List (Entry D)). Contains l e) (entries-left owner.term_length c kept) here));
  }

  -- what fits behind what was opened goes behind all three, behind the floors
  pub records-on : (ever opened kept : List (Artifact S D P G C)) (x : Artifact S D P G C) → 0 < owner.term_length → AreOfOneMember attests certifies owner ever opened kept → IsFrom (floor (entries opened)) (entry x) → IsBehind (floor (entries kept)) (entry x)
      → Fits attests certifies owner opened x → AreOfOneMember attests certifies owner (ever ++ x ∷ []) (opened ++ x ∷ []) (kept ++ x ∷ [])
  records-on ever opened kept x some are high behind fits =
      let fits_all = ever-fits some x are.opened_is high fits in
      let so = (kept-sound some are.opened_is).stands in
      let sk = (kept-sound some are.kept_is).stands in
      record {
        opened_is = further x are.opened_is fits_all;
        kept_is = further x are.kept_is (record {
          verifies = fits.verifies;
          follows = kept-follows owner.term_length (entries ever) (entries opened) (entries kept) so sk are.within (entry x) behind fits_all.follows;
        });
        within = λ e here. subst (λ (l : List (Entry D)). Contains l e) (sym (map-append entry opened (x ∷ [])))
            (within-further (entries opened) (entries kept) (entry x) are.within e (subst (λ (l : List (Entry D)). Contains l e) (map-append entry kept (x ∷ [])) here));
      }
