-- A point that changes little but what happened to views.
use Rattle.std.proofs.Common.{◌≡◌, ◌⊎◌, ◌<◌, ◌+◌, ◌-◌, ◌^◌, ◌==◌, ℕ, suc, true, false, ⊎_elim, List, ◌∷◌, refl, sym, ap, subst, ◌∙◌, arith, if◌then◌else◌}
use Rattle.std.specs.Prelude.{Option, Some, None, Bool, MatchOption, is_some, max, nat_le, nat_lt, unwrap_or, ◌&&◌, ◌||◌}
use Rattle.std.proofs.lemmas.Option.{none-some, same_Some}
use Rattle.std.specs.Option.{option_or}
use Rattle.std.specs.Ordering.{nat_cmp}
use Rattle.std.specs.BTreeMap.{get}
use Rattle.std.proofs.lemmas.Bool.{ne_eqb}
use Rattle.std.proofs.lemmas.Bool.Decides.{nat_tests}
use Rattle.types_core.specs.declared.proposal.Proposal.{Proposal}
use Rattle.types_core.specs.declared.scheme.Scheme.{Ghosts}
use Rattle.types_terms.specs.declared.elector.Elector as elector
use Rattle.types_terms.specs.declared.kind.Kind.{Kind}
use Rattle.types_terms.specs.declared.kind.Kind.TheVariants as kind
use Rattle.voter_history.specs.declared.timeout_reason.TimeoutReason.{TimeoutReason}
use Rattle.voter_history.specs.declared.timeout_reason.TimeoutReason.TheVariants as reason
use Rattle.voter_history.specs.Held as offer
use Rattle.voter_history.specs.Past as past
use Rattle.voter_history.specs.Past.{Item, has_notarized, has_nullified}
use Rattle.voter_rounds.specs.declared.marks.Marks.{Marks}
use Rattle.voter_rounds.specs.declared.notice.Notice.{Notice}
use Rattle.voter_rounds.specs.declared.notice.Notice.TheVariants as notice
use Rattle.voter_views.specs.Beginning.{IsBegun}
use Rattle.voter_views.specs.declared.beginning.Beginning.{Beginning}
use Rattle.voter_views.specs.declared.progress.Progress.{Progress}
use Rattle.voter_rounds.specs.declared.tracked.Tracked.{Tracked}
use Rattle.voter_views.specs.declared.views.Views.{Views}
use Rattle.voter_history.specs.History as History
use Rattle.voter_history.specs.Pasts.{is_direct, put}
use Rattle.voter_history.specs.History.{Setup, Point, current, enter, is_marked, seen, sent_item, was_nullified}
use Rattle.voter_history.specs.Known.{backs, waits}
use Rattle.voter_history.specs.Leaders.{extend}
use Rattle.voter_history.specs.Leaders.{named, named_early, inherits, leader, was_forwarded}
use Rattle.voter_rounds.specs.Marks.{Shows}
use Rattle.voter_views.specs.Progress.{IsAt, frame_of, tables}
use Rattle.voter_rounds.specs.Rounds.{told}
use Rattle.voter_rounds.specs.Tracked.{Tables, Holds, IsClosedAt, inherits_by, is_spoken}
use Rattle.voter_views.specs.Views.{IsKept, noticed}
use Rattle.voter_rounds.specs.Laws.{Holds-led, Holds-noted, Shows-same, inherits-less, inherits-same, put-fact}
use Rattle.voter_views.proofs.Advancing.{IsAt-tracked, grown-tables}
use Rattle.voter_views.proofs.Following.{leader-closed, leader-same}

module _ {S D P G C : Type 0} (s : Setup S C) (h : List (Point S D P G C)) where
  -- a point that finalizes and covers nothing, and is no start
  pub record IsStill (x : Point S D P G C) : Type 0 where
    pub finalizes : History.last_finalized (x ∷ h) ≡ History.last_finalized h
    pub begins : History.genesis (x ∷ h) ≡ History.genesis h
    pub covers : (u : ℕ) → was_nullified (x ∷ h) u ≡ was_nullified h u
    pub nullifies : (u : ℕ) → History.nullification s (x ∷ h) u ≡ History.nullification s h u
    pub kept_nullification : (u : ℕ) → past.nullification (seen s (x ∷ h) u) ≡ past.nullification (seen s h u)

  -- a point that names no leader, and brings nothing that leaders rest on
  pub record IsUnled (x : Point S D P G C) : Type 0 where
    pub notes : (u : ℕ) → was_forwarded s (x ∷ h) u ≡ was_forwarded s h u
    pub leads : leader s (x ∷ h) ≡ extend (λ view. option_or (named s x view) (named_early s (x ∷ h) view)) (inherits s (x ∷ h)) (leader s h)
    pub nobody : (u : ℕ) → named s x u ≡ None
    pub certificates : (u : ℕ) → is_direct (seen s (x ∷ h) u) ≡ is_direct (seen s h u)
    pub votes : (u : ℕ) → has_notarized (seen s (x ∷ h) u) ≡ has_notarized (seen s h u)

  -- both, and it marks nothing
  pub record IsQuiet (x : Point S D P G C) : Type 0 where
    pub still : IsStill x
    pub unled : IsUnled x
    pub backs_none : (u : ℕ) → is_marked s backs (x ∷ h) u ≡ is_marked s backs h u
    pub waits_none : (u : ℕ) → is_marked s waits (x ∷ h) u ≡ is_marked s waits h u

  -- a point that has no part in any fold but what happened to views
  abbrev pub IsBare : Point S D P G C → Type 0
  IsBare x = (History.last_finalized (x ∷ h) ≡ History.last_finalized h) × (History.genesis (x ∷ h) ≡ History.genesis h)
      × ((u : ℕ) → was_nullified (x ∷ h) u ≡ was_nullified h u) × ((u : ℕ) → History.nullification s (x ∷ h) u ≡ History.nullification s h u)
      × ((u : ℕ) → is_marked s waits (x ∷ h) u ≡ is_marked s waits h u) × ((u : ℕ) → was_forwarded s (x ∷ h) u ≡ was_forwarded s h u)
      × ((u : ℕ) → is_marked s backs (x ∷ h) u ≡ is_marked s backs h u)
      × (leader s (x ∷ h) ≡ extend (λ view. option_or (named s x view) (named_early s (x ∷ h) view)) (inherits s (x ∷ h)) (leader s h))
      × ((u : ℕ) → named s x u ≡ None)

  -- what happened to views tells of no certificate that is new, and of no own notarize
  abbrev pub IsLike : (grown : ℕ → List (Item S D P G C)) → Type 0
  IsLike grown = ((u : ℕ) → past.nullification (grown u) ≡ past.nullification (seen s h u)) × ((u : ℕ) → is_direct (grown u) ≡ is_direct (seen s h u))
      × ((u : ℕ) → has_notarized (grown u) ≡ has_notarized (seen s h u))

  pub quiet-from : (x : Point S D P G C) → IsBare x → IsLike (seen s (x ∷ h)) → IsQuiet x
  quiet-from x (finalizes, begins, covers, nullifies, waits_none, notes, backs_none, leads, nobody) (nullification, certificates, votes) = record {
    still = record { finalizes = finalizes; begins = begins; covers = covers; nullifies = nullifies; kept_nullification = nullification };
    unled = record { notes = notes; leads = leads; nobody = nobody; certificates = certificates; votes = votes };
    backs_none = backs_none;
    waits_none = waits_none;
  }

  -- an item that is neither certificate nor own notarize
  abbrev pub IsPlain : Item S D P G C → Type 0
  IsPlain i = ((l : List (Item S D P G C)) → past.nullification (i ∷ l) ≡ past.nullification l) × ((l : List (Item S D P G C)) → is_direct (i ∷ l) ≡ is_direct l)
      × ((l : List (Item S D P G C)) → has_notarized (i ∷ l) ≡ has_notarized l)

  pub like-put : (view : ℕ) (i : Item S D P G C) (t : ℕ → List (Item S D P G C)) → IsPlain i → IsLike t → IsLike (put view i t)
  like-put view i t (nullification, certificate, vote) like = (
    λ u. put-fact past.nullification i nullification view t u ∙ like.0 u,
    λ u. put-fact is_direct i certificate view t u ∙ like.1 u,
    λ u. put-fact has_notarized i vote view t u ∙ like.2 u,
  )

  pub like-seen : IsLike (seen s h)
  like-seen = (λ u. refl, λ u. refl, λ u. refl)

  pub like-unless : (b : Bool) (t : ℕ → List (Item S D P G C)) → IsLike t → IsLike (if b then seen s h else t)
  like-unless true t like = like-seen
  like-unless false t like = like

  -- a verdict that is put off hands no leader on
  pub waited-still : (view : ℕ) → IsStill (History.certify_waited view)
  waited-still view = record { finalizes = refl; begins = refl; covers = λ u. refl; nullifies = λ u. refl; kept_nullification = λ u. refl }

  pub waited-unled : (view : ℕ) → IsUnled (History.certify_waited view)
  waited-unled view = record { notes = λ u. refl; leads = refl; nobody = λ u. refl; certificates = λ u. refl; votes = λ u. refl }

  -- nor does a floor that is named
  pub based-unled : (view : ℕ) → IsUnled (History.based view)
  based-unled view = record { notes = λ u. refl; leads = refl; nobody = λ u. refl; certificates = λ u. refl; votes = λ u. refl }

  -- nor does an own notarize finalize or cover anything
  pub notarize-still : (view : ℕ) (p : Proposal D) → IsStill (History.voted_notarize view p)
  notarize-still view p = record { finalizes = refl; begins = refl; covers = λ u. refl; nullifies = λ u. refl; kept_nullification = put-fact past.nullification past.voted_notarize (λ l. refl) view (seen s h) }

  -- what is known of each view, but for leaders that are handed on by the point
  abbrev pub stepped : Point S D P G C → Tables S D P G C
  stepped x = record { led = leader s h; past = seen s (x ∷ h); noted = was_forwarded s (x ∷ h) }

  pub unled-leader : (x : Point S D P G C) → IsUnled x → (u : ℕ) → leader s (x ∷ h) u ≡ leader s h u
  unled-leader x q = leader-same s h x q.leads q.nobody q.votes
      (inherits-same (frame_of s) (tables s (x ∷ h)) (tables s h) q.certificates
      (λ u i. q.notes u i || q.votes u i))

  -- behind views that see a certificate of one view more, nothing is left to be handed on but in its window
  pub reached-closed : (grown : ℕ → List (Item S D P G C)) (at : ℕ) → ((w : ℕ) → (at == w) ≡ false → is_direct (grown w) ≡ is_direct (seen s h w))
      → ((w : ℕ) → has_notarized (grown w) ≡ has_notarized (seen s h w)) → (u : ℕ) → (u < at) ⊎ (at + s.optimistic_views < u)
      → IsClosedAt (inherits_by (frame_of s) (record { led = leader s h; past = grown; noted = was_forwarded s h })) (leader s h) u
  reached-closed grown at certificates votes u far so = leader-closed s h u
      (inherits-less (frame_of s) (tables s h) (record { led = leader s h; past = grown; noted = was_forwarded s h }) (suc u)
      (λ w from before d. sym (certificates w (ne_eqb at w (λ e. ⊎_elim (λ lt. omega (arith, e, before, lt)) (λ gt. omega (arith, e, from, gt)) far))) ∙ d)
      (λ spoken. ap (λ b. was_forwarded s h (suc u - 1) || b) (sym (votes (suc u - 1))) ∙ spoken)
      so)

  -- behind views that see an own notarize of one view more, nothing is left to be handed on but behind that one
  pub spoken-closed : (grown : ℕ → List (Item S D P G C)) (at : ℕ) → ((w : ℕ) → is_direct (grown w) ≡ is_direct (seen s h w))
      → ((w : ℕ) → (at == w) ≡ false → has_notarized (grown w) ≡ has_notarized (seen s h w)) → (u : ℕ) → (at == u) ≡ false
      → IsClosedAt (inherits_by (frame_of s) (record { led = leader s h; past = grown; noted = was_forwarded s h })) (leader s h) u
  spoken-closed grown at certificates votes u apart so =
      let back : suc u - 1 ≡ u = omega arith in
      let grown_of : Tables S D P G C = record { led = leader s h; past = grown; noted = was_forwarded s h } in
      leader-closed s h u (inherits-less (frame_of s) (tables s h) grown_of (suc u)
      (λ w _ _ d. sym (certificates w) ∙ d)
      (λ spoken. subst (λ n. is_spoken (tables s h) n ≡ true) (sym back) (ap (λ b. was_forwarded s h u || b) (sym (votes u apart)) ∙ subst (λ n. is_spoken grown_of n ≡ true) back spoken))
      so)

  pub sent-quiet : (k : Kind) (view : ℕ) → IsQuiet (History.sent k view)
  sent-quiet k view = quiet-from (History.sent k view) (refl, refl, λ u. refl, λ u. refl, λ u. refl, λ u. refl, λ u. refl, refl, λ u. refl) (like-put view (sent_item k) (seen s h) (plain k) like-seen) where
    plain : (k : Kind) → IsPlain (sent_item k)
    plain kind.Notarization = (λ l. refl, λ l. refl, λ l. refl)
    plain kind.Nullification = (λ l. refl, λ l. refl, λ l. refl)
    plain kind.Finalization = (λ l. refl, λ l. refl, λ l. refl)

  -- so is all that is told of a view and needs no answer
  pub noticed-quiet : (view : ℕ) (n : Notice) → IsQuiet (noticed view n)
  noticed-quiet view notice.Unbound = quiet-from (History.unbound view) (refl, refl, λ u. refl, λ u. refl, λ u. refl, λ u. refl, λ u. refl, refl, λ u. refl)
      (like-put view past.unbound (seen s h) (λ l. refl, λ l. refl, λ l. refl) like-seen)
  noticed-quiet view notice.BuildReleased = quiet-from (History.build_released view) (refl, refl, λ u. refl, λ u. refl, λ u. refl, λ u. refl, λ u. refl, refl, λ u. refl)
      (like-put view (past.offered offer.released) (seen s h) (λ l. refl, λ l. refl, λ l. refl) like-seen)
  noticed-quiet view (notice.AncestryAsked missing) = quiet-from (History.ancestry_asked view missing) (refl, refl, λ u. refl, λ u. refl, λ u. refl, λ u. refl, λ u. refl, refl, λ u. refl)
      (like-put view (past.asked missing) (seen s h) (λ l. refl, λ l. refl, λ l. refl) like-seen)
  noticed-quiet view (notice.CertifyAsked handle) = quiet-from (History.certify_asked view handle) (refl, refl, λ u. refl, λ u. refl, λ u. refl, λ u. refl, λ u. refl, refl, λ u. refl)
      (like-put view (past.certifying handle) (seen s h) (λ l. refl, λ l. refl, λ l. refl) like-seen)

  pub noticed-seen : (view : ℕ) (n : Notice) → put view (told n) (seen s h) ≡ seen s (noticed view n ∷ h)
  noticed-seen view notice.Unbound = refl
  noticed-seen view notice.BuildReleased = refl
  noticed-seen view (notice.AncestryAsked missing) = refl
  noticed-seen view (notice.CertifyAsked handle) = refl

  pub noticed-begun : (view : ℕ) (n : Notice) (b : Beginning) → IsBegun s b h → IsBegun s b (noticed view n ∷ h)
  noticed-begun view notice.Unbound b begun = begun
  noticed-begun view notice.BuildReleased b begun = begun
  noticed-begun view (notice.AncestryAsked missing) b begun = begun
  noticed-begun view (notice.CertifyAsked handle) b begun = begun

  pub noticed-stays : (view : ℕ) (n : Notice) → current s (noticed view n ∷ h) ≡ current s h
  noticed-stays view notice.Unbound = refl
  noticed-stays view notice.BuildReleased = refl
  noticed-stays view (notice.AncestryAsked missing) = refl
  noticed-stays view (notice.CertifyAsked handle) = refl

  -- and reasons to give a view up, builds that are asked for, verifications, own builds, what is found good, nullifies, finalizes and looks at the timeout
  pub latched-quiet : (now view : ℕ) (why : TimeoutReason) → IsQuiet (History.latched now view why)
  latched-quiet now view why = quiet-from (History.latched now view why) (refl, refl, λ u. refl, λ u. refl, λ u. refl, λ u. refl, λ u. refl, refl, λ u. refl)
      (like-put view (past.latched now why) (seen s h) (λ l. refl, λ l. refl, λ l. refl) like-seen)

  pub build_asked-quiet : (view : ℕ) → IsQuiet (History.build_asked view)
  build_asked-quiet view = quiet-from (History.build_asked view) (refl, refl, λ u. refl, λ u. refl, λ u. refl, λ u. refl, λ u. refl, refl, λ u. refl)
      (like-put view (past.offered offer.building) (seen s h) (λ l. refl, λ l. refl, λ l. refl) like-seen)

  pub verify_asked-quiet : (view : ℕ) (p : Proposal D) (payload : D) → IsQuiet (History.verify_asked view p payload)
  verify_asked-quiet view p payload = quiet-from (History.verify_asked view p payload) (refl, refl, λ u. refl, λ u. refl, λ u. refl, λ u. refl, λ u. refl, refl, λ u. refl)
      (like-put view (past.bound p payload) (put view (past.offered offer.verifying) (seen s h)) (λ l. refl, λ l. refl, λ l. refl)
      (like-put view (past.offered offer.verifying) (seen s h) (λ l. refl, λ l. refl, λ l. refl) like-seen))

  pub built-quiet : (now : ℕ) (p : Proposal D) (payload : D) → IsQuiet (History.built now p payload)
  built-quiet now p payload = quiet-from (History.built now p payload) (refl, refl, λ u. refl, λ u. refl, λ u. refl, λ u. refl, λ u. refl, refl, λ u. refl)
      (like-put p.round.view (past.bound p payload) (put p.round.view (past.built now p) (seen s h)) (λ l. refl, λ l. refl, λ l. refl)
      (like-put p.round.view (past.built now p) (seen s h) (λ l. refl, λ l. refl, λ l. refl) like-seen))

  pub confirmed-quiet : (view : ℕ) → IsQuiet (History.confirmed view)
  confirmed-quiet view = quiet-from (History.confirmed view) (refl, refl, λ u. refl, λ u. refl, λ u. refl, λ u. refl, λ u. refl, refl, λ u. refl)
      (like-unless (has_nullified (seen s h view)) (put view (past.offered offer.confirmed) (seen s h))
      (like-put view (past.offered offer.confirmed) (seen s h) (λ l. refl, λ l. refl, λ l. refl) like-seen))

  pub nullify-quiet : (view : ℕ) → IsQuiet (History.voted_nullify view)
  nullify-quiet view = quiet-from (History.voted_nullify view) (refl, refl, λ u. refl, λ u. refl, λ u. refl, λ u. refl, λ u. refl, refl, λ u. refl)
      (like-put view past.voted_nullify (seen s h) (λ l. refl, λ l. refl, λ l. refl) like-seen)

  pub finalize-quiet : (view : ℕ) (p : Proposal D) → IsQuiet (History.voted_finalize view p)
  finalize-quiet view p = quiet-from (History.voted_finalize view p) (refl, refl, λ u. refl, λ u. refl, λ u. refl, λ u. refl, λ u. refl, refl, λ u. refl)
      (like-put view past.voted_finalize (seen s h) (λ l. refl, λ l. refl, λ l. refl) like-seen)

  pub polled-quiet : (now : ℕ) → IsQuiet (History.polled now)
  polled-quiet now = quiet-from (History.polled now) (refl, refl, λ u. refl, λ u. refl, λ u. refl, λ u. refl, λ u. refl, refl, λ u. refl)
      (polled-like (nat_lt 0 (current s h)))
    where
      polled-like : (b : Bool) → IsLike (if b then put (current s h) (past.polled (past.deadline now s.timeout_retry)) (seen s h) else seen s h)
      polled-like true = like-put (current s h) (past.polled (past.deadline now s.timeout_retry)) (seen s h) (λ l. refl, λ l. refl, λ l. refl) like-seen
      polled-like false = like-seen

  -- a look at the timeout is one at the current view's, where there is a current view
  pub polled-some : (now view interval : ℕ) → s.timeout_retry ≡ interval → view ≡ current s h → (view ≡ 0 → ⊥) → put view (past.polled (past.deadline now interval)) (seen s h) ≡ seen s (History.polled now ∷ h)
  polled-some now view interval same at some =
      let started : nat_lt 0 view ≡ true = grind (arith, nat_tests, some) in
      let behind : nat_lt 0 (current s h) ≡ true = subst (λ n. nat_lt 0 n ≡ true) at started in
      subst (λ i. put view (past.polled (past.deadline now i)) (seen s h) ≡ seen s (History.polled now ∷ h)) same
      (subst (λ n. put n (past.polled (past.deadline now s.timeout_retry)) (seen s h) ≡ seen s (History.polled now ∷ h)) (sym at) (rw behind refl))

  pub polled-none : (now : ℕ) → current s h ≡ 0 → seen s h ≡ seen s (History.polled now ∷ h)
  polled-none now none = rw none refl

  pub polled-answer : (view until : ℕ) (allow : Bool) (timeout : Option (ℕ × TimeoutReason)) → view ≡ current s h → (view ≡ 0 → ⊥) → timeout ≡ past.next_timeout (past.polled until ∷ seen s h view) allow
      → timeout ≡ (if nat_lt 0 (current s h) then past.next_timeout (past.polled until ∷ seen s h (current s h)) allow else None)
  polled-answer view until allow timeout at some is =
      let started : nat_lt 0 view ≡ true = grind (arith, nat_tests, some) in
      subst (λ n. timeout ≡ (if nat_lt 0 n then past.next_timeout (past.polled until ∷ seen s h n) allow else None)) at (rw started is)

  -- a verdict leaves certificates and votes
  pub judged-quiet : (now view : ℕ) (ok : Bool) → IsQuiet (History.judged now view ok)
  judged-quiet now view ok = quiet-from (History.judged now view ok) (refl, refl, λ u. refl, λ u. refl, λ u. refl, λ u. refl, λ u. refl, refl, λ u. refl) (judged-like ok)
    where
      once : (ok : Bool) → IsLike (put view (past.judged ok) (seen s h))
      once ok = like-put view (past.judged ok) (seen s h) (λ l. refl, λ l. refl, λ l. refl) like-seen

      entered-like : (b : Bool) (t : ℕ → List (Item S D P G C)) → IsLike t
          → IsLike (if b then put (view + 1) (past.armed (past.deadline now s.leader_timeout) (past.deadline now s.certification_timeout) (History.later now s.stall_timeout)) (put (view + 1) (past.entered now) t) else t)
      entered-like true t like = like-put (view + 1) (past.armed (past.deadline now s.leader_timeout) (past.deadline now s.certification_timeout) (History.later now s.stall_timeout)) (put (view + 1) (past.entered now) t)
          (λ l. refl, λ l. refl, λ l. refl) (like-put (view + 1) (past.entered now) t (λ l. refl, λ l. refl, λ l. refl) like)
      entered-like false t like = like

      latched-like : (b : Bool) → IsLike (if b then put view (past.latched now reason.FailedCertification) (put view (past.judged false) (seen s h)) else put view (past.judged false) (seen s h))
      latched-like true = like-put view (past.latched now reason.FailedCertification) (put view (past.judged false) (seen s h)) (λ l. refl, λ l. refl, λ l. refl) (once false)
      latched-like false = once false

      judged-like : (ok : Bool) → IsLike (seen s (History.judged now view ok ∷ h))
      judged-like true = entered-like (nat_lt (current s h) (view + 1)) (put view (past.judged true) (seen s h)) (once true)
      judged-like false = latched-like (nat_le (current s h) view)

  -- what a false verdict leaves of each view
  pub judged-ahead : (now view : ℕ) (ok : Bool) → ok ≡ false → nat_le (current s h) view ≡ true
      → put view (past.latched now reason.FailedCertification) (put view (past.judged ok) (seen s h)) ≡ seen s (History.judged now view ok ∷ h)
  judged-ahead now view ok bad ahead = rw (bad, ahead) refl

  pub judged-behind : (now view : ℕ) (ok : Bool) → ok ≡ false → nat_le (current s h) view ≡ false → put view (past.judged ok) (seen s h) ≡ seen s (History.judged now view ok ∷ h)
  judged-behind now view ok bad behind = rw (bad, behind) refl

  pub judged-stays : (now view : ℕ) (ok : Bool) → ok ≡ false → current s (History.judged now view ok ∷ h) ≡ current s h
  judged-stays now view ok bad = rw bad refl

module _ {S D P G C : Type 0} {g : Ghosts S D P G C} {s : Setup S C} {h : List (Point S D P G C)} where
  -- the progress is where a point leads that hands no leader on
  pub unled-progress : (x : Point S D P G C) (p : Progress S D P G C) (c : ℕ) → IsUnled s h x → IsAt g s p c (stepped s h x) → IsAt g s p c (tables s (x ∷ h))
  unled-progress x p c q at = IsAt-tracked {t' = tables s (x ∷ h)} at (Holds-led g (frame_of s) p.tracked (stepped s h x) (leader s (x ∷ h)) at.tracked (λ u _. sym (unled-leader s h x q u)))

module _ {S L D P G C : Type 0} {g : Ghosts S D P G C} {leads : elector.Ghosts L S D P G C} {s : Setup S C} {v : Views S L D P G C} {h : List (Point S D P G C)} where
  -- the voter is where a still point leads, if its progress and its marks are
  pub still-kept : (x : Point S D P G C) (p : Progress S D P G C) (backed waiting : Marks) (first : Beginning) → IsKept g leads s v h → IsStill s h x → IsAt g s p (current s (x ∷ h)) (tables s (x ∷ h))
      → Shows backed (is_marked s backs (x ∷ h)) → Shows waiting (is_marked s waits (x ∷ h)) → IsBegun s first (x ∷ h)
      → IsKept g leads s (record v { progress = p; backed = backed; waiting = waiting; beginning = first }) (x ∷ h)
  still-kept x p backed waiting first k q at backs_are waits_are begun = record {
    scheme = k.scheme;
    me = k.me;
    epoch = k.epoch;
    length = k.length;
    optimistic_views = k.optimistic_views;
    retention = k.retention;
    mode = k.mode;
    elects = k.elects;
    members = k.members;
    progress = at;
    last_finalized = k.last_finalized ∙ sym q.finalizes;
    behind = subst (λ n. n + 1 < 2 ^ 64) (sym q.finalizes) k.behind;
    begun = begun;
    genesis = k.genesis ∙ sym q.begins;
    coverage = λ u. (
      λ is. let there = (k.coverage u).0 is in (there.0, there.1, q.covers there.0 ∙ there.2),
      λ there. (k.coverage u).1 (there.0, there.1, sym (q.covers there.0) ∙ there.2),
    );
    backed = backs_are;
    waiting = waits_are;
    nullified = Shows-same v.nullified (λ u. is_some (History.nullification s h u)) (λ u. is_some (History.nullification s (x ∷ h) u)) k.nullified (λ u. ap (λ n. is_some n) (q.nullifies u));
    nullifications = λ u. q.nullifies u ∙ k.nullifications u ∙ ap (λ n. option_or (get nat_cmp v.reaching u) n) (sym (q.kept_nullification u));
  }

  -- the voter is where a quiet point leads, if its progress is
  pub quiet-progress : (x : Point S D P G C) (p : Progress S D P G C) (first : Beginning) → IsKept g leads s v h → IsQuiet s h x → IsAt g s p (current s (x ∷ h)) (stepped s h x) → IsBegun s first (x ∷ h)
      → IsKept g leads s (record v { progress = p; beginning = first }) (x ∷ h)
  quiet-progress x p first k q at begun = still-kept x p v.backed v.waiting first k q.still (unled-progress x p (current s (x ∷ h)) q.unled at) (Shows-same v.backed (is_marked s backs h) (is_marked s backs (x ∷ h)) k.backed q.backs_none) (Shows-same v.waiting (is_marked s waits h) (is_marked s waits (x ∷ h)) k.waiting q.waits_none) begun

  -- the same, where the current view stays
  pub quiet : (x : Point S D P G C) (y : Tracked S D P G C) (first : Beginning) → IsKept g leads s v h → IsQuiet s h x → current s (x ∷ h) ≡ current s h → Holds g (frame_of s) y (grown-tables s h (seen s (x ∷ h))) → IsBegun s first (x ∷ h)
      → IsKept g leads s (record v { progress = record v.progress { tracked = y }; beginning = first }) (x ∷ h)
  quiet x y first k q stays holds begun = quiet-progress x (record v.progress { tracked = y }) first k q
      (subst (λ n. IsAt g s (record v.progress { tracked = y }) n (stepped s h x)) (sym stays)
      (IsAt-tracked k.progress (Holds-noted g (frame_of s) y (grown-tables s h (seen s (x ∷ h))) (was_forwarded s (x ∷ h)) holds q.unled.notes)))
      begun

  -- nothing happened, though the views were looked at
  unmoved-from : (y : Tracked S D P G C) (first : Beginning) → IsKept g leads s v h → Holds g (frame_of s) y (tables s h) → IsBegun s first h
      → IsKept g leads s (record v { progress = record v.progress { tracked = y }; beginning = first }) h
  unmoved-from y first k holds begun = record {
    scheme = k.scheme;
    me = k.me;
    epoch = k.epoch;
    length = k.length;
    optimistic_views = k.optimistic_views;
    retention = k.retention;
    mode = k.mode;
    elects = k.elects;
    members = k.members;
    progress = IsAt-tracked k.progress holds;
    last_finalized = k.last_finalized;
    behind = k.behind;
    begun = begun;
    genesis = k.genesis;
    coverage = k.coverage;
    backed = k.backed;
    waiting = k.waiting;
    nullified = k.nullified;
    nullifications = k.nullifications;
  }

  pub unmoved : (y : Tracked S D P G C) → IsKept g leads s v h → Holds g (frame_of s) y (tables s h) → IsKept g leads s (record v { progress = record v.progress { tracked = y } }) h
  unmoved y k holds = unmoved-from y v.beginning k holds k.begun

  -- a point that is added where something says so, and of which nothing is recorded
  pub quiet-if : (b : Bool) (x : Point S D P G C) (y : Tracked S D P G C) → IsKept g leads s v h → IsQuiet s h x → current s (x ∷ h) ≡ current s h
      → Holds g (frame_of s) y (grown-tables s h (if b then seen s (x ∷ h) else seen s h)) → IsBegun s v.beginning (x ∷ h)
      → IsKept g leads s (record v { progress = record v.progress { tracked = y } }) (if b then x ∷ h else h)
  quiet-if true x y k q stays holds begun = quiet x y v.beginning k q stays holds begun
  quiet-if false x y k q stays holds begun = unmoved y k holds

  -- a nullify that is recorded where one was voted that is no repetition
  pub nullify-if : (voted : Option Bool) (view : ℕ) (y : Tracked S D P G C) (first : Beginning) → IsKept g leads s v h → IsQuiet s h (History.voted_nullify view)
      → voted ≡ (if past.has_finalized (seen s h view) then None else Some (has_nullified (seen s h view)))
      → Holds g (frame_of s) y (grown-tables s h (if is_some voted then seen s (History.voted_nullify view ∷ h) else seen s h))
      → first.floor ≡ v.beginning.floor → first.is_blank ≡ (unwrap_or voted true && v.beginning.is_blank)
      → IsKept g leads s (record v { progress = record v.progress { tracked = y }; beginning = first }) (if is_some voted then History.voted_nullify view ∷ h else h)
  nullify-if None view y first k q is holds floor_is blank_is = unmoved-from y first k holds (floor_is ∙ k.begun.0, blank_is ∙ k.begun.1)
  nullify-if (Some again) view y first k q is holds floor_is blank_is =
      let same : again ≡ has_nullified (seen s h view) = by (past.has_finalized (seen s h view)) is in
      quiet (History.voted_nullify view) y first k q refl holds (floor_is ∙ k.begun.0, blank_is ∙ (λ i. same i && k.begun.1 i))
    where
      by : (b : Bool) → Some again ≡ (if b then None else Some (has_nullified (seen s h view))) → again ≡ has_nullified (seen s h view)
      by true none = absurd (none-some again (sym none))
      by false some = same_Some again (has_nullified (seen s h view)) some

  -- a point that is added and recorded where something says which
  pub quiet-option : {A : Type 0} (o : Option A) (x : A → Point S D P G C) (grown : ℕ → List (Item S D P G C)) (y : Tracked S D P G C) (first : Beginning) → IsKept g leads s v h → ((a : A) → IsQuiet s h (x a))
      → ((a : A) → current s (x a ∷ h) ≡ current s h) → ((a : A) → grown ≡ seen s (x a ∷ h)) → Holds g (frame_of s) y (grown-tables s h (if is_some o then grown else seen s h))
      → first.floor ≡ v.beginning.floor → first.is_blank ≡ (if is_some o then false else v.beginning.is_blank)
      → ((a : A) → (History.floor s h ≡ History.floor s (x a ∷ h)) × (false ≡ History.is_blank s (x a ∷ h)))
      → MatchOption o (IsKept g leads s (record v { progress = record v.progress { tracked = y }; beginning = first }) h)
      (λ a. IsKept g leads s (record v { progress = record v.progress { tracked = y }; beginning = first }) (x a ∷ h))
  quiet-option None x grown y first k q stays same holds floor_is blank_is tells = unmoved-from y first k holds (floor_is ∙ k.begun.0, blank_is ∙ k.begun.1)
  quiet-option (Some a) x grown y first k q stays same holds floor_is blank_is tells =
      quiet (x a) y first k (q a) (stays a) (subst (λ t. Holds g (frame_of s) y (grown-tables s h t)) (same a) holds) (floor_is ∙ k.begun.0 ∙ (tells a).0, blank_is ∙ (tells a).1)

module _ {S D P G C : Type 0} {g : Ghosts S D P G C} (s : Setup S C) (h : List (Point S D P G C)) where
  -- a true verdict enters the next view
  pub judged-true : (now view next : ℕ) (ok : Bool) (p : Progress S D P G C) → next ≡ view + 1 → ok ≡ true
      → IsAt g s p (max next (current s h)) (record { led = leader s h; past = enter s (current s h) now next (put view (past.judged ok) (seen s h)); noted = was_forwarded s h })
      → IsAt g s p (current s (History.judged now view ok ∷ h)) (stepped s h (History.judged now view ok))
  judged-true now view next ok p e good at = rw good (rw (good, e) at at)
