-- What a proposal lacks is asked for once.
use Rattle.std.proofs.Common.{◌≡◌, ◌≢◌, ◌⊎◌, inl, inr, ⊎_elim, ℕ, ◌≤◌, ◌<◌, ◌==◌, ◌||◌, Bool, true, false, List, [], ◌∷◌, ◌++◌, Some, refl, sym, ◌∙◌, ap, subst, arith}
use Rattle.std.specs.Prelude.{⊤}
use Rattle.std.proofs.lemmas.Bool.{cases_lt, eqb-true}
use Rattle.types_core.specs.declared.proposal.Proposal.{Proposal}
use Rattle.types_core.specs.declared.scheme.Scheme.{Ghosts}
use Rattle.types_core.specs.Positions.{HasRoom}
use Rattle.voter_history.specs.Held as offer
use Rattle.voter_history.specs.Past as past
use Rattle.voter_history.specs.Past.{Item}
use Rattle.voter_history.specs.History as views
use Rattle.voter_history.specs.History.{last_finalized, min_active, seen, was_nullified}
use Rattle.voter_rules.specs.Ancestry.{AreCoveredBetween, IsCovered, held_at}
use Rattle.voter_laws.specs.Missing.{IsMissing}
use Rattle.simplex_resolver.specs.declared.ask.Kind as repair
use Rattle.simplex_resolver.specs.declared.ask.Kind.TheVariants as repair_kind
use Rattle.simplex_member.specs.Allowed.{Allowed}
use Rattle.simplex_member.specs.Layers.{current_of, known_of, latest, voter_of, voter_points}
use Rattle.simplex_member.specs.Packet.{Formats}
use Rattle.simplex_member.specs.Point.{Point, Resolves, History, is_act}
use Rattle.simplex_member.specs.Setup.{Setup, member_of}
use Rattle.simplex_member.proofs.Adding.{act-adds}
use Rattle.simplex_member.proofs.Lists.{same-number, some-is}
use Rattle.simplex_member.proofs.Marking.{final-low, put-here}
use Rattle.simplex_member.proofs.Staying.{Fits, UnlessDropped, all-stay, each-stays, low-stays}
use Rattle.simplex_member.proofs.Telling.{apart}
use Rattle.simplex_member.proofs.Turning.{StillHolds, holds-offer}

module _ {S D P G C : Type 0} where
  holds-item : (p : Proposal D) (y : Item S D P G C) (l : List (Item S D P G C)) → StillHolds p (past.offers l) → StillHolds p (past.offers (y ∷ l))
  holds-item p (past.offered o) l is = holds-offer p o (past.offers l) is
  holds-item p (past.built moment q) l is = holds-offer p (offer.recorded q) (past.offers l) is
  holds-item p (past.notarized c) l is = holds-offer p (offer.certified c.proposal) (past.offers l) is
  holds-item p (past.finalized c) l is = holds-offer p (offer.certified c.proposal) (past.offers l) is
  holds-item p y l is = is

  nullified-more : (xs h : List (views.Point S D P G C)) (u : ℕ) → was_nullified h u ≡ true → was_nullified (xs ++ h) u ≡ true
  nullified-more [] h u is = is
  nullified-more (views.nullified now c ∷ xs) h u is = go (c.round.view == u) (nullified-more xs h u is)
    where
      go : (b : Bool) → was_nullified (xs ++ h) u ≡ true → (b || was_nullified (xs ++ h) u) ≡ true
      go true more = refl
      go false more = more
  nullified-more (x ∷ xs) h u is = nullified-more xs h u is

module _ {S D P G C : Type 0} (s : Setup S D C) where
  -- a nullification of this view was asked for, the first that lacked: it is the last that was asked for, or it is there by now
  pub record AwaitsCover (h : History S D P G C) (view u : ℕ) : Type 0 where
    pub p : Proposal D
    pub holds : StillHolds p (past.offers (seen s.voter (voter_of s h) view))
    pub from : p.parent < u
    pub below : u < view
    pub between : AreCoveredBetween (member_of s) (known_of s h) p.parent u
    pub last : past.last_asked (seen s.voter (voter_of s h) view) ≢ Some u → (IsCovered (member_of s) (known_of s h) u → ⊥) → ⊥

  -- the notarization of the parent was asked for, once nothing between lacked: it is the last that was asked for
  pub record AwaitsParent (h : History S D P G C) (view u : ℕ) : Type 0 where
    pub p : Proposal D
    pub holds : StillHolds p (past.offers (seen s.voter (voter_of s h) view))
    pub parent : p.parent ≡ u
    pub between : AreCoveredBetween (member_of s) (known_of s h) u view
    pub last : past.last_asked (seen s.voter (voter_of s h) view) ≢ Some u → ⊥

  abbrev pub WasResolved : History S D P G C → ℕ → ℕ → Type 0
  WasResolved h view u = (view < min_active s.voter (voter_of s h)) ⊎ (AwaitsCover h view u ⊎ AwaitsParent h view u)

  covered-more : (p : Point S D P G C) (h : History S D P G C) (u : ℕ) → IsCovered (member_of s) (known_of s h) u → IsCovered (member_of s) (known_of s (p ∷ h)) u
  covered-more p h u is = (is.0, is.1, nullified-more (voter_points s (latest (p ∷ h)) (last_finalized (voter_of s h)) p) (voter_of s h) is.0 is.2)

  between-more : (p : Point S D P G C) (h : History S D P G C) (a b : ℕ) → AreCoveredBetween (member_of s) (known_of s h) a b → AreCoveredBetween (member_of s) (known_of s (p ∷ h)) a b
  between-more p h a b is = λ u from below. covered-more p h u (is u from below)

  holds-more : (q : Proposal D) (p : Point S D P G C) (h : History S D P G C) (view : ℕ) → StillHolds q (past.offers (seen s.voter (voter_of s h) view))
      → UnlessDropped s.voter (λ l. StillHolds q (past.offers l)) (voter_of s (p ∷ h)) view
  holds-more q p h view is = each-stays (λ l. StillHolds q (past.offers l)) (holds-item q) s.voter view (voter_points s (latest (p ∷ h)) (last_finalized (voter_of s h)) p) (voter_of s h) (inr is)

  -- where nothing was asked for the view, it stays
  quiet-stays : (p : Point S D P G C) (h : History S D P G C) (view u : ℕ) → is_act p ≡ true → ((k : repair.Kind) (w : ℕ) → p ≡ Resolves view k w → ⊥) → WasResolved h view u → WasResolved (p ∷ h) view u
  quiet-stays p h view u own quiet is = ⊎_elim (λ low. inl (low-stays s.voter (voter_points s (latest (p ∷ h)) (last_finalized (voter_of s h)) p) (voter_of s h) view low)) (λ more. ⊎_elim cover parent more) is
    where
      same : UnlessDropped s.voter (λ l. past.last_asked l ≡ past.last_asked (seen s.voter (voter_of s h) view)) (voter_of s (p ∷ h)) view
      same = all-stay ⊤ (λ moment. ⊤) ⊥ (λ l. past.last_asked l ≡ past.last_asked (seen s.voter (voter_of s h) view)) asks view s.voter (voter_points s (latest (p ∷ h)) (last_finalized (voter_of s h)) p) (voter_of s h)
          (act-adds ⊤ (λ moment. ⊤) ⊥ s view p h (last_finalized (voter_of s h)) own (record { votes = λ v e at. tt; repeats = λ v best e at. tt; polls = λ e. tt; resolves = quiet }))
          (inr refl)
        where
          asks : (y : Item S D P G C) (l : List (Item S D P G C)) → Fits ⊤ (λ moment. ⊤) ⊥ y → past.last_asked l ≡ past.last_asked (seen s.voter (voter_of s h) view) → past.last_asked (y ∷ l) ≡ past.last_asked (seen s.voter (voter_of s h) view)
          asks (past.asked w) l fits e = absurd fits
          asks y l fits e = e

      cover : AwaitsCover h view u → WasResolved (p ∷ h) view u
      cover r = ⊎_elim (λ low. inl low) (λ e. ⊎_elim (λ low. inl low) (λ holds. inr (inl (record {
        p = r.p;
        holds = holds;
        from = r.from;
        below = r.below;
        between = between-more p h r.p.parent u r.between;
        last = λ other bare. r.last (λ old. other (e ∙ old)) (λ there. bare (covered-more p h u there));
      }))) (holds-more r.p p h view r.holds)) same

      parent : AwaitsParent h view u → WasResolved (p ∷ h) view u
      parent r = ⊎_elim (λ low. inl low) (λ e. ⊎_elim (λ low. inl low) (λ holds. inr (inr (record {
        p = r.p;
        holds = holds;
        parent = r.parent;
        between = between-more p h u view r.between;
        last = λ other. r.last (λ old. other (e ∙ old));
      }))) (holds-more r.p p h view r.holds)) same

  module _ (h : History S D P G C) (view : ℕ) (k : repair.Kind) (w : ℕ) where
    asked-now : past.last_asked (seen s.voter (voter_of s (Resolves view k w ∷ h)) view) ≡ Some w
    asked-now = ap (λ (l : List (Item S D P G C)). past.last_asked l) (put-here s.voter view (past.asked w) (seen s.voter (voter_of s h)))

    -- of the same proposal, as long as no verification was asked for
    same-held : (q r : Proposal D) → StillHolds q (past.offers (seen s.voter (voter_of s h) view)) → (offer.IsVerifyAsked (past.offers (seen s.voter (voter_of s h) view)) → ⊥)
        → held_at (member_of s) (known_of s h) view ≡ Some r → (q ≡ r → ⊥) → ⊥
    same-held q r holds first held other = holds first (λ e. other (some-is q r (sym e ∙ held)))

    -- something else was asked for the view behind: what was asked for before is there by now
    cover-passed : (u : ℕ) → IsMissing (member_of s) (known_of s h) view k w → AwaitsCover h view u → w ≢ u → (IsCovered (member_of s) (known_of s h) u → ⊥) → ⊥
    cover-passed u missing r other bare = go k missing
      where
        go : (kind : repair.Kind) → IsMissing (member_of s) (known_of s h) view kind w → ⊥
        go repair_kind.Nullification m = same-held r.p m.0 r.holds m.1.waits.first m.1.waits.held
            (λ same.
            let parents : r.p.parent ≡ m.0.parent = ap (λ (x : Proposal D). x.parent) same in
            ⊎_elim
            (λ before. m.1.uncovered.bare (r.between w (omega (arith, m.1.uncovered.after, parents)) before))
            (λ not_before. ⊎_elim
            (λ behind. bare (m.1.uncovered.least u (omega (arith, r.from, parents)) behind))
            (λ not_behind. other (omega (arith, not_before, not_behind)))
            (cases_lt u w))
            (cases_lt w u))
        go repair_kind.Notarization m = same-held r.p m.0 r.holds m.1.waits.first m.1.waits.held
            (λ same.
            let parents : r.p.parent ≡ m.0.parent = ap (λ (x : Proposal D). x.parent) same in
            bare (m.1.lacks.span.covered u (omega (arith, r.from, parents)) r.below))

    parent-passed : (u : ℕ) → IsMissing (member_of s) (known_of s h) view k w → AwaitsParent h view u → w ≢ u → ⊥
    parent-passed u missing r other = go k missing
      where
        go : (kind : repair.Kind) → IsMissing (member_of s) (known_of s h) view kind w → ⊥
        go repair_kind.Nullification m = same-held r.p m.0 r.holds m.1.waits.first m.1.waits.held
            (λ same.
            let parents : r.p.parent ≡ m.0.parent = ap (λ (x : Proposal D). x.parent) same in
            m.1.uncovered.bare (r.between w (omega (arith, m.1.uncovered.after, parents, r.parent)) m.1.uncovered.before))
        go repair_kind.Notarization m = same-held r.p m.0 r.holds m.1.waits.first m.1.waits.held
            (λ same. other (sym m.2 ∙ (sym (ap (λ (x : Proposal D). x.parent) same) ∙ r.parent)))

    asked-stays : (u : ℕ) → IsMissing (member_of s) (known_of s h) view k w → WasResolved h view u → WasResolved (Resolves view k w ∷ h) view u
    asked-stays u missing is = ⊎_elim (λ low. inl low) (λ more. ⊎_elim cover parent more) is
      where
        cover : AwaitsCover h view u → WasResolved (Resolves view k w ∷ h) view u
        cover r = ⊎_elim (λ low. inl low) (λ holds. inr (inl (record {
          p = r.p;
          holds = holds;
          from = r.from;
          below = r.below;
          between = between-more (Resolves view k w) h r.p.parent u r.between;
          last = λ other bare. cover-passed u missing r (λ same. other (asked-now ∙ ap (λ (n : ℕ). Some n) same)) (λ there. bare (covered-more (Resolves view k w) h u there));
        }))) (holds-more r.p (Resolves view k w) h view r.holds)

        parent : AwaitsParent h view u → WasResolved (Resolves view k w ∷ h) view u
        parent r = ⊎_elim (λ low. inl low) (λ holds. inr (inr (record {
          p = r.p;
          holds = holds;
          parent = r.parent;
          between = between-more (Resolves view k w) h u view r.between;
          last = λ other. parent-passed u missing r (λ same. other (asked-now ∙ ap (λ (n : ℕ). Some n) same));
        }))) (holds-more r.p (Resolves view k w) h view r.holds)

    -- it was asked for now
    pub resolved-now : IsMissing (member_of s) (known_of s h) view k w → WasResolved (Resolves view k w ∷ h) view w
    resolved-now missing = go k missing
      where
        go : (kind : repair.Kind) → IsMissing (member_of s) (known_of s h) view kind w → WasResolved (Resolves view k w ∷ h) view w
        go repair_kind.Nullification m = ⊎_elim (λ low. inl low) (λ holds. inr (inl (record {
          p = m.0;
          holds = holds;
          from = m.1.uncovered.after;
          below = m.1.uncovered.before;
          between = between-more (Resolves view k w) h m.0.parent w m.1.uncovered.least;
          last = λ other bare. other asked-now;
        }))) (holds-more m.0 (Resolves view k w) h view (λ first other. other m.1.waits.held))
        go repair_kind.Notarization m = ⊎_elim (λ low. inl low) (λ holds. inr (inr (record {
          p = m.0;
          holds = holds;
          parent = m.2;
          between = subst (λ (n : ℕ). AreCoveredBetween (member_of s) (known_of s (Resolves view k w ∷ h)) n view) m.2 (between-more (Resolves view k w) h m.0.parent view m.1.lacks.span.covered);
          last = λ other. other asked-now;
        }))) (holds-more m.0 (Resolves view k w) h view (λ first other. other m.1.waits.held))

    missing-from : IsMissing (member_of s) (known_of s h) view k w → current_of s h ≤ view
    missing-from missing = go k missing
      where
        go : (kind : repair.Kind) → IsMissing (member_of s) (known_of s h) view kind w → current_of s h ≤ view
        go repair_kind.Nullification m = m.1.waits.opens.from
        go repair_kind.Notarization m = m.1.waits.opens.from

    pub missing-room : IsMissing (member_of s) (known_of s h) view k w → HasRoom s.voter.length view
    missing-room missing = go k missing
      where
        go : (kind : repair.Kind) → IsMissing (member_of s) (known_of s h) view kind w → HasRoom s.voter.length view
        go repair_kind.Nullification m = m.1.waits.opens.room
        go repair_kind.Notarization m = m.1.waits.opens.room

    -- what lacks is earlier
    pub missing-below : IsMissing (member_of s) (known_of s h) view k w → w < view
    missing-below missing = go k missing
      where
        go : (kind : repair.Kind) → IsMissing (member_of s) (known_of s h) view kind w → w < view
        go repair_kind.Nullification m = m.1.uncovered.before
        go repair_kind.Notarization m = subst (λ (n : ℕ). n < view) m.2 m.1.lacks.span.below

    -- and not again
    pub resolved-before : IsMissing (member_of s) (known_of s h) view k w → WasResolved h view w → ⊥
    resolved-before missing is = ⊎_elim
        (λ low. let from = missing-from missing in let final = final-low s.voter (voter_of s h) in omega (arith, low, from, final))
        (λ more. ⊎_elim (cover k missing) (parent k missing) more)
        is
      where
        cover : (kind : repair.Kind) → IsMissing (member_of s) (known_of s h) view kind w → AwaitsCover h view w → ⊥
        cover repair_kind.Nullification m r = r.last m.1.first m.1.uncovered.bare
        cover repair_kind.Notarization m r = same-held r.p m.0 r.holds m.1.waits.first m.1.waits.held
            (λ same.
            let parents : r.p.parent ≡ m.0.parent = ap (λ (x : Proposal D). x.parent) same in
            let late = r.from in
            let is_parent = m.2 in
            absurd (omega (arith, parents, late, is_parent)))

        parent : (kind : repair.Kind) → IsMissing (member_of s) (known_of s h) view kind w → AwaitsParent h view w → ⊥
        parent repair_kind.Nullification m r = r.last m.1.first
        parent repair_kind.Notarization m r = r.last (λ e. m.1.first (e ∙ ap (λ (n : ℕ). Some n) (sym m.2)))

  same-place : (at view : ℕ) (k kind : repair.Kind) (w v : ℕ) → ◌≡◌ {A = Point S D P G C} (Resolves at k w) (Resolves view kind v) → at ≡ view
  same-place at view k kind w v is = cc is

  -- an act leaves it
  pub resolved-stays : (g : Ghosts S D P G C) (f : Formats S D P G C) (p : Point S D P G C) (h : History S D P G C) (view u : ℕ) → is_act p ≡ true → Allowed g f s h p → WasResolved h view u → WasResolved (p ∷ h) view u
  resolved-stays g f (Resolves at k w) h view u own a is = go (at == view) refl
    where
      go : (b : Bool) → (at == view) ≡ b → WasResolved (Resolves at k w ∷ h) view u
      go true e =
          let same = eqb-true at view e in
          subst (λ (n : ℕ). WasResolved (Resolves n k w ∷ h) view u) (sym same) (asked-stays h view k w u (subst (λ (n : ℕ). IsMissing (member_of s) (known_of s h) n k w) same a.due.missing) is)
      go false e = quiet-stays (Resolves at k w) h view u own (λ kind v is_so. apart (sym e ∙ same-number at view (same-place at view k kind w v is_so))) is
  resolved-stays g f p h view u own a is = quiet-stays p h view u own (λ kind v is_so. cc is_so) is
