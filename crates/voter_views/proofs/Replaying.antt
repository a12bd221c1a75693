-- What an artifact of a record leaves of the voter.
use Rattle.std.proofs.Common.{◌≡◌, ◌==◌, ◌+◌, ◌<◌, ◌^◌, ℕ, true, false, List, ◌∷◌, refl, sym, subst, ◌∙◌, if◌then◌else◌}
use Rattle.std.specs.Prelude.{Option, Some, None, Bool, ⊤, ◌||◌}
use Rattle.std.specs.Option.{ForSome}
use Rattle.std.proofs.lemmas.Bool.{eq-eqb}
use Rattle.types_core.specs.declared.proposal.Proposal.{Proposal}
use Rattle.types_core.specs.declared.scheme.Scheme.{Ghosts}
use Rattle.messages_certificates.specs.declared.artifact.Artifact.{Artifact}
use Rattle.messages_certificates.specs.declared.artifact.Artifact.TheVariants as artifact
use Rattle.types_terms.specs.declared.elector.Elector as elector
use Rattle.types_terms.specs.declared.kind.Kind.TheVariants as kind
use Rattle.voter_history.specs.Held.{recorded}
use Rattle.voter_history.specs.Past as past
use Rattle.voter_history.specs.Past.{Item, has_notarized}
use Rattle.messages_certificates.specs.ProposalVote.{Notarize}
use Rattle.voter_rounds.specs.declared.marks.Marks.{Marks}
use Rattle.voter_rounds.specs.declared.tracked.Tracked.{Tracked}
use Rattle.voter_views.specs.Beginning.{IsBegun, tells}
use Rattle.voter_views.specs.declared.beginning.Beginning.{Beginning}
use Rattle.voter_views.specs.declared.views.Views.{Views}
use Rattle.voter_history.specs.History as History
use Rattle.voter_history.specs.Pasts.{bind, is_direct, put}
use Rattle.voter_history.specs.History.{Setup, Point, current, is_marked, seen, undecided_payload}
use Rattle.voter_history.specs.Known.{backs}
use Rattle.voter_history.specs.Leaders.{handoff_leader, leader, was_forwarded}
use Rattle.voter_rounds.specs.Marks.{Shows}
use Rattle.voter_views.specs.Progress.{frame_of, tables}
use Rattle.voter_history.specs.Leaders.{extend}
use Rattle.voter_rounds.specs.Rounds.{Takes, recalled}
use Rattle.voter_rounds.specs.Tracked.{Tables, AtEach, IsClosedAt, Holds, inherits_by}
use Rattle.voter_views.specs.Views.{IsKept, recalls}
use Rattle.voter_rounds.specs.Laws.{Shows-same, put-fact}
use Rattle.voter_views.proofs.Advancing.{IsAt-tracked, grown-tables}
use Rattle.voter_views.proofs.Following.{voted-at}
use Rattle.voter_views.proofs.Stepping.{IsQuiet, like-put, like-seen, quiet-from, sent-quiet, spoken-closed, still-kept}

module _ {S D P G C : Type 0} where
  -- what is offered, or bound, changes no other fact
  taken-fact : {X : Type 0} (q : List (Item S D P G C) → X) (x : Item S D P G C) → ((l : List (Item S D P G C)) → q (x ∷ l) ≡ q l)
      → (b : Bool) (view : ℕ) (t : ℕ → List (Item S D P G C)) (u : ℕ) → q ((if b then put view x t else t) u) ≡ q (t u)
  taken-fact q x same true view t u = put-fact q x same view t u
  taken-fact q x same false view t u = refl

  bind-fact : {X : Type 0} (q : List (Item S D P G C) → X) → ((p : Proposal D) (payload : D) (l : List (Item S D P G C)) → q (past.bound p payload ∷ l) ≡ q l)
      → (o : Option D) (p : Proposal D) (t : ℕ → List (Item S D P G C)) (u : ℕ) → q (bind o p t u) ≡ q (t u)
  bind-fact q same None p t u = refl
  bind-fact q same (Some payload) p t u = put-fact q (past.bound p payload) (same p payload) p.round.view t u

  -- what happened to each view behind an own notarize
  abbrev pub recalled-past : Option D → Proposal D → Bool → (ℕ → List (Item S D P G C)) → ℕ → List (Item S D P G C)
  recalled-past o p taken t = bind o p (put p.round.view past.voted_notarize (if taken then put p.round.view (past.offered (recorded p)) t else t))

  recalled-fact : {X : Type 0} (q : List (Item S D P G C) → X) → ((p : Proposal D) (payload : D) (l : List (Item S D P G C)) → q (past.bound p payload ∷ l) ≡ q l)
      → ((l : List (Item S D P G C)) → q (past.voted_notarize ∷ l) ≡ q l) → ((p : Proposal D) (l : List (Item S D P G C)) → q (past.offered (recorded p) ∷ l) ≡ q l)
      → (o : Option D) (p : Proposal D) (taken : Bool) (t : ℕ → List (Item S D P G C)) (u : ℕ) → q (recalled-past o p taken t u) ≡ q (t u)
  recalled-fact q bound voted offered o p taken t u =
      bind-fact q bound o p (put p.round.view past.voted_notarize (if taken then put p.round.view (past.offered (recorded p)) t else t)) u
      ∙ put-fact q past.voted_notarize voted p.round.view (if taken then put p.round.view (past.offered (recorded p)) t else t) u
      ∙ taken-fact q (past.offered (recorded p)) (offered p) taken p.round.view t u

  recalled-votes : (o : Option D) (p : Proposal D) (taken : Bool) (t : ℕ → List (Item S D P G C)) (u : ℕ) → (p.round.view == u) ≡ false
      → has_notarized (recalled-past o p taken t u) ≡ has_notarized (t u)
  recalled-votes o p taken t u apart =
      bind-fact has_notarized (λ p payload l. refl) o p (put p.round.view past.voted_notarize (if taken then put p.round.view (past.offered (recorded p)) t else t)) u
      ∙ rw apart (taken-fact has_notarized (past.offered (recorded p)) (λ l. refl) taken p.round.view t u)

  recalled-vote : (o : Option D) (p : Proposal D) (taken : Bool) (t : ℕ → List (Item S D P G C)) → has_notarized (recalled-past o p taken t p.round.view) ≡ true
  recalled-vote o p taken t =
      let here : (p.round.view == p.round.view) ≡ true = eq-eqb p.round.view p.round.view refl in
      bind-fact has_notarized (λ p payload l. refl) o p (put p.round.view past.voted_notarize (if taken then put p.round.view (past.offered (recorded p)) t else t)) p.round.view
      ∙ rw here refl

module _ {S D P G C : Type 0} (s : Setup S C) (h : List (Point S D P G C)) (p : Proposal D) (taken : Bool) where
  -- what is known of each view then, but for leaders that are handed on
  abbrev pub recalled-tables : Tables S D P G C
  recalled-tables = record { led = leader s h; past = recalled-past (undecided_payload (seen s h p.parent)) p taken (seen s h); noted = was_forwarded s h }

  pub recalled-direct : (u : ℕ) → is_direct (recalled-past (undecided_payload (seen s h p.parent)) p taken (seen s h) u) ≡ is_direct (seen s h u)
  recalled-direct u = recalled-fact is_direct (λ p payload l. refl) (λ l. refl) (λ p l. refl) (undecided_payload (seen s h p.parent)) p taken (seen s h) u

  pub recalled-nullification : (u : ℕ) → past.nullification (recalled-past (undecided_payload (seen s h p.parent)) p taken (seen s h) u) ≡ past.nullification (seen s h u)
  recalled-nullification u = recalled-fact past.nullification (λ p payload l. refl) (λ l. refl) (λ p l. refl) (undecided_payload (seen s h p.parent)) p taken (seen s h) u

  -- the own notarize backs its view exactly where its proposal was taken
  pub recalled-backed : (view : ℕ) (marks : Marks) → view ≡ p.round.view → taken ≡ true → Shows marks (λ u. (view == u) || is_marked s backs h u) → Shows marks (is_marked s backs (History.recalled_notarize p taken ∷ h))
  recalled-backed view marks at is shows = Shows-same marks (λ u. (view == u) || is_marked s backs h u) (is_marked s backs (History.recalled_notarize p taken ∷ h)) shows (λ u. rw (is, at) refl)

  pub recalled-unbacked : (marks : Marks) → taken ≡ false → Shows marks (is_marked s backs h) → Shows marks (is_marked s backs (History.recalled_notarize p taken ∷ h))
  recalled-unbacked marks isnt shows = Shows-same marks (is_marked s backs h) (is_marked s backs (History.recalled_notarize p taken ∷ h)) shows (λ u. rw isnt refl)

  -- behind another view nothing is left to be handed on
  pub recalled-closed : (u : ℕ) → (p.round.view == u) ≡ false → IsClosedAt (inherits_by (frame_of s) recalled-tables) (leader s h) u
  recalled-closed = spoken-closed s h (recalled-past (undecided_payload (seen s h p.parent)) p taken (seen s h)) p.round.view recalled-direct
      (recalled-votes (undecided_payload (seen s h p.parent)) p taken (seen s h))

module _ {S L D P G C : Type 0} {g : Ghosts S D P G C} {leads : elector.Ghosts L S D P G C} {s : Setup S C} {v : Views S L D P G C} {h : List (Point S D P G C)} where
  -- behind what it leaves, what its proposal is bound to, and what these hand on, views are where the own notarize leads
  pub recalled-steps : (vote : Notarize S D P G C) (payload : Option D) (view : ℕ) (heir : Option ℕ) (x y z : Tracked S D P G C) → IsKept g leads s v h
      → payload ≡ undecided_payload (seen s h vote.proposal.parent) → view ≡ vote.proposal.round.view
      → (view + 1 < 2 ^ 64 → heir ≡ handoff_leader s (view + 1)) → ForSome heir (λ i. i < g.size s.scheme)
      → AtEach g v.progress.tracked (λ f t. (taken : Bool) × Takes t.past (artifact.Notarize vote) taken × Holds g f x (record t { past = recalled taken (artifact.Notarize vote) t.past }))
      → AtEach g x (λ f t. Holds g f y (record t { past = bind payload vote.proposal t.past }))
      → AtEach g y (λ f t. ForSome heir (λ i. i < g.size f.common.scheme) → ((u : ℕ) → (view == u) ≡ false → IsClosedAt (inherits_by f t) t.led u)
      → Holds g f z (record t { led = extend (λ u. if u == view + 1 then heir else None) (inherits_by f t) t.led }))
      → (taken : Bool) × Takes (seen s h) (artifact.Notarize vote) taken × Holds g (frame_of s) z (tables s (History.recalled_notarize vote.proposal taken ∷ h))
  recalled-steps vote payload view heir x y z k decides named heirs member replays binds follows =
      let p = vote.proposal in
      let bound_to = undecided_payload (seen s h p.parent) in
      let told = replays (frame_of s) (tables s h) k.progress.tracked in
      let bound = rw decides at (binds (frame_of s) (grown-tables s h (recalled told.0 (artifact.Notarize vote) (seen s h))) told.2) in
      let followed = follows (frame_of s) (recalled-tables s h p told.0) bound member (λ u apart. recalled-closed s h p told.0 u (rw named at apart)) in (
        told.0,
        told.1,
        voted-at g z s h (History.recalled_notarize p told.0) view heir refl (λ u. refl)
            (subst (λ (u : ℕ). has_notarized (recalled-past bound_to p told.0 (seen s h) u) ≡ true) (sym named) (recalled-vote bound_to p told.0 (seen s h)))
            (λ u apart. recalled-votes bound_to p told.0 (seen s h) u (rw named at apart)) heirs followed,
      )

  -- the voter stands where the own notarize leads
  pub recalled-notarize : (p : Proposal D) (taken : Bool) (x : Tracked S D P G C) (marks : Marks) (first : Beginning) → IsKept g leads s v h
      → Holds g (frame_of s) x (tables s (History.recalled_notarize p taken ∷ h)) → Shows marks (is_marked s backs (History.recalled_notarize p taken ∷ h))
      → first.floor ≡ v.beginning.floor → first.is_blank ≡ false
      → IsKept g leads s (record v { progress = record v.progress { tracked = x }; backed = marks; beginning = first }) (History.recalled_notarize p taken ∷ h)
  recalled-notarize p taken x marks first k holds backed floor_is blank_is = still-kept (History.recalled_notarize p taken) (record v.progress { tracked = x }) marks v.waiting first k
      (record { finalizes = refl; begins = refl; covers = λ u. refl; nullifies = λ u. refl; kept_nullification = recalled-nullification s h p taken })
      (IsAt-tracked {t' = tables s (History.recalled_notarize p taken ∷ h)} k.progress holds)
      backed k.waiting (floor_is ∙ k.begun.0, blank_is)

module _ {S D P G C : Type 0} where
  -- an artifact is no own notarize
  abbrev pub IsOther : Artifact S D P G C → Type 0
  IsOther (artifact.Notarize v) = ⊥
  IsOther x = ⊤

  pub is-other : (a : Artifact S D P G C) → ((v : Notarize S D P G C) → ¬ (a ≡ artifact.Notarize v)) → IsOther a
  is-other (artifact.Notarize v) never = never v refl
  is-other (artifact.Notarization c) never = tt
  is-other (artifact.Certification round ok) never = tt
  is-other (artifact.Nullify v) never = tt
  is-other (artifact.Nullification c) never = tt
  is-other (artifact.Finalize v) never = tt
  is-other (artifact.Finalization c) never = tt

module _ {S D P G C : Type 0} (s : Setup S C) (h : List (Point S D P G C)) where
  verdict-quiet : (view : ℕ) (ok : Bool) → IsQuiet s h (History.recalled_verdict view ok)
  verdict-quiet view ok = quiet-from s h (History.recalled_verdict view ok) (refl, refl, λ u. refl, λ u. refl, λ u. refl, λ u. refl, λ u. refl, refl, λ u. refl)
      (like-put s h view (past.judged ok) (seen s h) (λ l. refl, λ l. refl, λ l. refl) (like-seen s h))

  recalled_nullify-quiet : (view : ℕ) → IsQuiet s h (History.recalled_nullify view)
  recalled_nullify-quiet view = quiet-from s h (History.recalled_nullify view) (refl, refl, λ u. refl, λ u. refl, λ u. refl, λ u. refl, λ u. refl, refl, λ u. refl)
      (like-put s h view past.voted_nullify (seen s h) (λ l. refl, λ l. refl, λ l. refl) (like-seen s h))

  recalled_finalize-quiet : (p : Proposal D) → IsQuiet s h (History.recalled_finalize p)
  recalled_finalize-quiet p = quiet-from s h (History.recalled_finalize p) (refl, refl, λ u. refl, λ u. refl, λ u. refl, λ u. refl, λ u. refl, refl, λ u. refl)
      (like-put s h p.round.view past.voted_finalize (seen s h) (λ l. refl, λ l. refl, λ l. refl) (like-seen s h))

  -- where the record begins, behind such an artifact
  pub other-begun : (a : Artifact S D P G C) → IsOther a → (taken : Bool) (b first : Beginning) → first.floor ≡ b.floor → first.is_blank ≡ (if tells a then false else b.is_blank) → IsBegun s b h → IsBegun s first (recalls taken a ∷ h)
  other-begun (artifact.Notarize v) other taken b first floor_is blank_is begun = absurd other
  other-begun (artifact.Notarization c) other taken b first floor_is blank_is begun = (floor_is ∙ begun.0, blank_is ∙ begun.1)
  other-begun (artifact.Certification round ok) other taken b first floor_is blank_is begun = (floor_is ∙ begun.0, blank_is ∙ begun.1)
  other-begun (artifact.Nullify v) other taken b first floor_is blank_is begun = (floor_is ∙ begun.0, blank_is)
  other-begun (artifact.Nullification c) other taken b first floor_is blank_is begun = (floor_is ∙ begun.0, blank_is ∙ begun.1)
  other-begun (artifact.Finalize v) other taken b first floor_is blank_is begun = (floor_is ∙ begun.0, blank_is)
  other-begun (artifact.Finalization c) other taken b first floor_is blank_is begun = (floor_is ∙ begun.0, blank_is ∙ begun.1)

  -- what such an artifact leaves is what its point does
  pub other-quiet : (a : Artifact S D P G C) → IsOther a → (taken : Bool) → IsQuiet s h (recalls taken a)
  other-quiet (artifact.Notarize v) other taken = absurd other
  other-quiet (artifact.Notarization c) other taken = sent-quiet s h kind.Notarization c.proposal.round.view
  other-quiet (artifact.Certification round ok) other taken = verdict-quiet round.view ok
  other-quiet (artifact.Nullify v) other taken = recalled_nullify-quiet v.round.view
  other-quiet (artifact.Nullification c) other taken = sent-quiet s h kind.Nullification c.round.view
  other-quiet (artifact.Finalize v) other taken = recalled_finalize-quiet v.proposal
  other-quiet (artifact.Finalization c) other taken = sent-quiet s h kind.Finalization c.proposal.round.view

  pub other-seen : (a : Artifact S D P G C) → IsOther a → (taken : Bool) → recalled taken a (seen s h) ≡ seen s (recalls taken a ∷ h)
  other-seen (artifact.Notarize v) other taken = absurd other
  other-seen (artifact.Notarization c) other taken = refl
  other-seen (artifact.Certification round ok) other taken = refl
  other-seen (artifact.Nullify v) other taken = refl
  other-seen (artifact.Nullification c) other taken = refl
  other-seen (artifact.Finalize v) other taken = refl
  other-seen (artifact.Finalization c) other taken = refl

  pub other-stays : (a : Artifact S D P G C) → IsOther a → (taken : Bool) → current s (recalls taken a ∷ h) ≡ current s h
  other-stays (artifact.Notarize v) other taken = absurd other
  other-stays (artifact.Notarization c) other taken = refl
  other-stays (artifact.Certification round ok) other taken = refl
  other-stays (artifact.Nullify v) other taken = refl
  other-stays (artifact.Nullification c) other taken = refl
  other-stays (artifact.Finalize v) other taken = refl
  other-stays (artifact.Finalization c) other taken = refl
