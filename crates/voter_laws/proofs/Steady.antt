-- A look at all proposals that wait leaves nothing to be asked behind it.
use Rattle.std.proofs.Common.{◌≡◌, ℕ, Bool, true, false, List, ◌∷◌, Option, Some, None, refl, sym, ap, inl, inr, ⊎_elim, ◌⊎◌, ◌∙◌, subst, ◌+◌, ◌<◌, ◌≤◌, arith, eq-eqb, if◌then◌else◌}
use Rattle.std.specs.Prelude.{◌&&◌, Contains, is_none}
use Rattle.std.specs.Option.{option_or}
use Rattle.std.proofs.lemmas.Option.{same_Some}
use Rattle.std.proofs.lemmas.Bool.{cases_lt}
use Rattle.types_quorum.specs.Counting.{Contains-head, Contains-rest}
use Rattle.types_core.specs.declared.proposal.Proposal.{Proposal}
use Rattle.voter_history.specs.declared.timeout_reason.TimeoutReason.{TimeoutReason}
use Rattle.voter_history.specs.declared.timeout_reason.TimeoutReason.TheVariants as reason
use Rattle.voter_history.specs.Past as past
use Rattle.voter_history.specs.Past.{Item}
use Rattle.voter_history.specs.Pasts.{put}
use Rattle.voter_history.specs.History.{Setup, Point, latched, current, seen}
use Rattle.voter_history.specs.Known.{Known, known}
use Rattle.voter_rules.specs.Ancestry.{Member, member, IsSpan}
use Rattle.voter_rules.specs.Requests.{WaitsForParent, IsInvalid, AsksNothing, Scanned, begun, passed, given_up, left_so, IsOpen}
use Rattle.voter_laws.specs.Matching.{ScanChangesNothing, ScanLeavesNothing, ScanGivesUp, ScanLeavesNoReason, WholeScanLeavesNothing}
use Rattle.voter_laws.specs.Steps.{put_holds}
use Rattle.voter_laws.proofs.Quiet.{latch_changes_nothing}

module _ {D : Type 0} (m : Member) (k : Known D) (view : ℕ) (q : Proposal D) (bad : IsInvalid m k view q) where
  -- the proposal that waits in a view is one
  same_parent : (p : Proposal D) → WaitsForParent m k view p → p.parent ≡ q.parent
  same_parent p waits = ap (λ (x : Proposal D). x.parent) (same_Some p q (sym waits.held ∙ bad.waits.held))

  -- so nothing is to be asked for one that can never stand
  never_spans : (p : Proposal D) → WaitsForParent m k view p → IsSpan m k view p.parent → ⊥
  never_spans p waits span =
      let same : p.parent ≡ q.parent = same_parent p waits in
      elim bad.invalid [
        | inl above ↦ omega (arith, above, span.below, same)
        | inr rest ↦ elim rest [
          | inl under ↦ omega (arith, under, span.above, same)
          | inr apart ↦ elim span.next [ inl start ↦ apart.0 start | inr next ↦ apart.1 (next ∙ ap (λ n. n + 1) same) ]
        ]
      ]

  asks_nothing : AsksNothing m k view
  asks_nothing = record {
    no_verify = λ p payload due. never_spans p due.waits due.parent.span;
    no_nullification = λ p u wanted. wanted.valid (rw (same_parent p wanted.waits) bad.invalid);
    no_notarization = λ p wanted. never_spans p wanted.waits wanted.lacks.span;
  }

module _ {S D P G C : Type 0} where
  -- behind a reason no other would be the first
  no_first_behind : (x : List (Item S D P G C)) (now : ℕ) (why : TimeoutReason) → past.is_unlatched (past.latched now why ∷ x) ≡ false
  no_first_behind x now why = by (past.is_undecided x) (past.latch x)
    where
      by : (b : Bool) (o : Option (ℕ × TimeoutReason)) → (b && is_none (if b then option_or o (Some (now, why)) else o)) ≡ false
      by true None = refl
      by true (Some first) = refl
      by false o = refl

  put_here : (at : ℕ) (x : Item S D P G C) (t : ℕ → List (Item S D P G C)) → put at x t at ≡ x ∷ t at
  put_here at x t = ap (λ (b : Bool). if b then x ∷ t at else t at) (eq-eqb at at refl)

  put_elsewhere : (at view : ℕ) (x : Item S D P G C) (t : ℕ → List (Item S D P G C)) → (at ≡ view → ⊥) → put at x t view ≡ t view
  put_elsewhere at view x t other = put_holds (λ (l : List (Item S D P G C)). l ≡ t view) view at x t (λ same. absurd (other same)) refl

module _ {S D P G C : Type 0} where
  pub scan_changes_nothing : ScanChangesNothing S D P G C
  scan_changes_nothing s now first h view end begun = refl
  scan_changes_nothing s now first h view end (passed scanned is) = scan_changes_nothing s now first h _ end scanned
  scan_changes_nothing s now first h view end (given_up {view = at} {end = so_far} scanned bad is_first) =
      latch_changes_nothing s so_far now at _ ∙ scan_changes_nothing s now first h at so_far scanned
  scan_changes_nothing s now first h view end (left_so scanned bad isnt) = scan_changes_nothing s now first h _ end scanned

  -- what can never stand by what was known can't by what is
  bad_there : (s : Setup S C) (now first : ℕ) (h : List (Point S D P G C)) (w : ℕ) (end : List (Point S D P G C)) → Scanned s now first h w end → (u : ℕ) (p : Proposal D) → u ≡ w
      → IsInvalid (member s) (known s h) u p → IsInvalid (member s) (known s end) w p
  bad_there s now first h w end scanned u p at bad = subst (λ (v : ℕ). IsInvalid (member s) (known s end) v p) at
      (subst (λ (k : Known D). IsInvalid (member s) k u p) (sym (scan_changes_nothing s now first h w end scanned)) bad)

  -- behind a view whose proposal can never stand nothing is to be asked, where nothing was before it
  past_invalid : (s : Setup S C) (now first : ℕ) (h : List (Point S D P G C)) (w : ℕ) (end : List (Point S D P G C)) → Scanned s now first h w end → (p : Proposal D) × IsInvalid (member s) (known s end) w p
      → (u : ℕ) → u < w + 1 → (u < w → AsksNothing (member s) (known s h) u) → AsksNothing (member s) (known s h) u
  past_invalid s now first h w end scanned bad u below before = elim (cases_lt u w) [
    | inl is_before ↦ before is_before
    | inr after ↦
        let at : w ≡ u = omega (arith, after, below) in
        subst (λ (v : ℕ). AsksNothing (member s) (known s h) v) at
        (subst (λ (k : Known D). AsksNothing (member s) k w) (scan_changes_nothing s now first h w end scanned) (asks_nothing (member s) (known s end) w bad.0 bad.1))
  ]

  -- nothing is to be asked for the views that were looked at
  passed_by : (s : Setup S C) (now first : ℕ) (h : List (Point S D P G C)) (view : ℕ) (end : List (Point S D P G C)) → Scanned s now first h view end
      → (u : ℕ) → first ≤ u → u < view → AsksNothing (member s) (known s h) u
  passed_by s now first h view end begun u from below = absurd (omega (arith, from, below))
  passed_by s now first h view end (passed {view = w} scanned is) u from below = elim (cases_lt u w) [
    | inl before ↦ passed_by s now first h w end scanned u from before
    | inr after ↦
        let at : w ≡ u = omega (arith, after, below) in
        subst (λ (v : ℕ). AsksNothing (member s) (known s h) v) at
        (subst (λ (k : Known D). AsksNothing (member s) k w) (scan_changes_nothing s now first h w end scanned) is.asks)
  ]
  passed_by s now first h view end (given_up {view = w} {end = so_far} scanned bad is_first) u from below = past_invalid s now first h w so_far scanned bad u below (λ before. passed_by s now first h w so_far scanned u from before)
  passed_by s now first h view end (left_so {view = w} scanned bad isnt) u from below = past_invalid s now first h w end scanned bad u below (λ before. passed_by s now first h w end scanned u from before)

  pub scan_leaves_nothing : ScanLeavesNothing S D P G C
  scan_leaves_nothing s now first h view end scanned u from below =
      subst (λ (k : Known D). AsksNothing (member s) k u) (sym (scan_changes_nothing s now first h view end scanned)) (passed_by s now first h view end scanned u from below)

  -- a view that was not looked at is as it was
  ahead_as_before : (s : Setup S C) (now first : ℕ) (h : List (Point S D P G C)) (view : ℕ) (end : List (Point S D P G C)) → Scanned s now first h view end → (u : ℕ) → view ≤ u → seen s end u ≡ seen s h u
  ahead_as_before s now first h view end begun u from = refl
  ahead_as_before s now first h view end (passed {view = w} scanned is) u from = ahead_as_before s now first h w end scanned u (omega (arith, from))
  ahead_as_before s now first h view end (given_up {view = w} {end = so_far} scanned bad is_first) u from =
      put_elsewhere w u (past.latched now reason.InvalidProposal) (seen s so_far) (λ same. absurd (omega (arith, from, same)))
      ∙ ahead_as_before s now first h w so_far scanned u (omega (arith, from))
  ahead_as_before s now first h view end (left_so {view = w} scanned bad isnt) u from = ahead_as_before s now first h w end scanned u (omega (arith, from))

  -- those that can never stand were given up, unless that was not the first reason
  gives_up : (s : Setup S C) (now first : ℕ) (h : List (Point S D P G C)) (view : ℕ) (end : List (Point S D P G C)) → Scanned s now first h view end
      → (u : ℕ) (p : Proposal D) → first ≤ u → u < view → IsInvalid (member s) (known s h) u p → Contains end (latched now u reason.InvalidProposal) ⊎ (past.is_unlatched (seen s h u) ≡ false)
  gives_up s now first h view end begun u p from below bad = absurd (omega (arith, from, below))
  gives_up s now first h view end (passed {view = w} scanned is) u p from below bad = elim (cases_lt u w) [
    | inl before ↦ gives_up s now first h w end scanned u p from before bad
    | inr after ↦ absurd (is.not_invalid p (bad_there s now first h w end scanned u p (omega (arith, after, below)) bad))
  ]
  gives_up s now first h view end (given_up {view = w} {end = so_far} scanned other is_first) u p from below bad = elim (cases_lt u w) [
    | inl before ↦ ⊎_elim
        (λ given. inl (Contains-rest (latched now w reason.InvalidProposal) so_far (latched now u reason.InvalidProposal) given))
        (λ isnt. inr isnt)
        (gives_up s now first h w so_far scanned u p from before bad)
    | inr after ↦
        let at : w ≡ u = omega (arith, after, below) in
        inl (subst (λ (v : ℕ). Contains (latched now w reason.InvalidProposal ∷ so_far) (latched now v reason.InvalidProposal)) at (Contains-head (latched now w reason.InvalidProposal) so_far))
  ]
  gives_up s now first h view end (left_so {view = w} scanned other isnt) u p from below bad = elim (cases_lt u w) [
    | inl before ↦ gives_up s now first h w end scanned u p from before bad
    | inr after ↦
        let at : w ≡ u = omega (arith, after, below) in
        inr (subst (λ (v : ℕ). past.is_unlatched (seen s h v) ≡ false) at (ap past.is_unlatched (sym (ahead_as_before s now first h w end scanned w (omega arith))) ∙ isnt))
  ]

  pub scan_gives_up : ScanGivesUp S D P G C
  scan_gives_up s now first h view end scanned u p from below bad =
      gives_up s now first h view end scanned u p from below (subst (λ (k : Known D). IsInvalid (member s) k u p) (scan_changes_nothing s now first h view end scanned) bad)

  -- behind that no reason to give one up would be the first
  no_reason : (s : Setup S C) (now first : ℕ) (h : List (Point S D P G C)) (view : ℕ) (end : List (Point S D P G C)) → Scanned s now first h view end
      → (u : ℕ) (p : Proposal D) → first ≤ u → u < view → IsInvalid (member s) (known s h) u p → past.is_unlatched (seen s end u) ≡ false
  no_reason s now first h view end begun u p from below bad = absurd (omega (arith, from, below))
  no_reason s now first h view end (passed {view = w} scanned is) u p from below bad = elim (cases_lt u w) [
    | inl before ↦ no_reason s now first h w end scanned u p from before bad
    | inr after ↦ absurd (is.not_invalid p (bad_there s now first h w end scanned u p (omega (arith, after, below)) bad))
  ]
  no_reason s now first h view end (given_up {view = w} {end = so_far} scanned other is_first) u p from below bad = elim (cases_lt u w) [
    | inl before ↦
        ap past.is_unlatched (put_elsewhere w u (past.latched now reason.InvalidProposal) (seen s so_far) (λ same. absurd (omega (arith, before, same))))
        ∙ no_reason s now first h w so_far scanned u p from before bad
    | inr after ↦
        let at : w ≡ u = omega (arith, after, below) in
        subst (λ (v : ℕ). past.is_unlatched (seen s (latched now w reason.InvalidProposal ∷ so_far) v) ≡ false) at
        (ap past.is_unlatched (put_here w (past.latched now reason.InvalidProposal) (seen s so_far)) ∙ no_first_behind (seen s so_far w) now reason.InvalidProposal)
  ]
  no_reason s now first h view end (left_so {view = w} scanned other isnt) u p from below bad = elim (cases_lt u w) [
    | inl before ↦ no_reason s now first h w end scanned u p from before bad
    | inr after ↦
        let at : w ≡ u = omega (arith, after, below) in
        subst (λ (v : ℕ). past.is_unlatched (seen s end v) ≡ false) at isnt
  ]

  pub scan_leaves_no_reason : ScanLeavesNoReason S D P G C
  scan_leaves_no_reason s now first h view end scanned u p from below bad =
      no_reason s now first h view end scanned u p from below (subst (λ (k : Known D). IsInvalid (member s) k u p) (scan_changes_nothing s now first h view end scanned) bad)

  -- where all that may be spoken of was looked at, nothing is to be asked for any
  pub whole_scan_leaves_nothing : WholeScanLeavesNothing S D P G C
  whole_scan_leaves_nothing s now h view end scanned whole u = record {
    no_verify = λ p payload due. (asks due.waits.opens).no_verify p payload due;
    no_nullification = λ p w wanted. (asks wanted.waits.opens).no_nullification p w wanted;
    no_notarization = λ p wanted. (asks wanted.waits.opens).no_notarization p wanted;
  }
    where
      asks : IsOpen (member s) (known s end) u → AsksNothing (member s) (known s end) u
      asks opens =
          let same : current s end ≡ current s h = ap (λ (k : Known D). k.current) (scan_changes_nothing s now (current s h) h view end scanned) in
          scan_leaves_nothing s now (current s h) h view end scanned u (omega (arith, opens.from, same)) (whole u (rw (sym same) opens.outbound))
