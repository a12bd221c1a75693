-- Histories of the example at whose ends nothing is due.
use Rattle.std.proofs.Common.{◌≡◌, ◌⊎◌, inl, inr, ⊎_elim, ℕ, ◌<◌, ◌≤◌, Bool, true, false, List, [], ◌∷◌, Option, Some, None, refl, sym, ◌∙◌, ap, subst, arith}
use Rattle.std.specs.Prelude.{not, if◌then◌else◌, is_some, unwrap_or, find, nat_lt, ◌==◌, ◌&&◌}
use Rattle.std.proofs.lemmas.Bool.{both_ways, cases_lt, eqb-true}
use Rattle.types_quorum.specs.Committee.{quorum}
use Rattle.types_core.specs.declared.position.Round.{Round}
use Rattle.types_core.specs.declared.scheme.Scheme.{Ghosts}
use Rattle.messages_certificates.specs.declared.artifact.Artifact.TheVariants as artifact
use Rattle.messages_certificates.specs.declared.certificate.Certificate.{Certificate}
use Rattle.messages_certificates.specs.declared.certificate.Certificate.TheVariants as certificate
use Rattle.messages_certificates.specs.declared.nullification.Nullification.{Nullification}
use Rattle.messages_certificates.specs.declared.nullify.Nullify.{Nullify}
use Rattle.simplex_messages.specs.declared.vote.Vote.{Vote}
use Rattle.simplex_messages.specs.declared.vote.Vote.TheVariants as vote
use Rattle.voter_history.specs.declared.timeout_reason.TimeoutReason.{TimeoutReason}
use Rattle.voter_history.specs.Held.{IsConfirmed, Offer, held}
use Rattle.voter_history.specs.History.{seen}
use Rattle.voter_history.specs.Leaders.{leader}
use Rattle.voter_rules.specs.GivingUp.{NullifyIsDue}
use Rattle.batcher_verifier.specs.History as votes
use Rattle.batcher_verifier.specs.History.{Cast, Certified, Led, has_forwarded, is_another, leader_of, next_kind, selected}
use Rattle.simplex_batcher.specs.Queries.{has_nullify}
use Rattle.simplex_resolver.specs.RepairHistory.{Item, Replayed}
use Rattle.simplex_resolver.specs.Outstanding.{IsOutstanding}
use Rattle.simplex_member.specs.Asked.{build_at}
use Rattle.simplex_member.specs.Layers.{floor_of, latest, repair_of, voter_of, votes_of, votes_setup}
use Rattle.simplex_member.specs.Allowed.{RetryIsKnown}
use Rattle.simplex_member.specs.Member.{NoneDue}
use Rattle.simplex_member.specs.Packet.{Formats}
use Rattle.simplex_member.specs.Point.{Opened, Found, Began, Came, Told, Leads, Polls, Repeats, History}
use Rattle.simplex_member.specs.Setup.{Setup}
use Rattle.network_example.specs.Example.{nullification_of, nullify_of, set_up}
use Rattle.network_example.proofs.Calm.{IsCalm, IsPlain, calm-leads, calm-seen}
use Rattle.network_example.proofs.Still.{IsStill, none-due as still}

none-some : {X : Type 0} (x : X) → None ≡ Some x → ⊥
none-some x e = cc e

stays-none : {X : Type 0} (b : Bool) (o : Option X) → o ≡ None → (if b then o else None) ≡ None
stays-none true o e = e
stays-none false o e = refl

-- when something is to happen, if anything
abbrev moment_of : Option (ℕ × TimeoutReason) → ℕ
moment_of None = 0
moment_of (Some x) = x.0

one-is : (view : ℕ) → 1 ≤ view → view ≤ 1 → 1 ≡ view
one-is view low high = omega (arith, low, high)

one-or-two : (view : ℕ) → 1 ≤ view → view ≤ 2 → (1 ≡ view) ⊎ (2 ≡ view)
one-or-two view low high = ⊎_elim (λ lt. inl (omega (arith, low, lt))) (λ le. inr (omega (arith, high, le))) (cases_lt view 2)

module _ {S D P G C : Type 0} (v : Nullify S D P G C) where
  -- the votes of a view: none, or the leader is known, or an own nullify stands too
  pub votes-led : (Q : votes.History S D P G C → Type 0) → Q [] → Q (Led 3 ∷ []) → (behind here : Bool) → Q (if behind then [] else (if here then Led 3 ∷ [] else []))
  votes-led Q none led true here = none
  votes-led Q none led false true = led
  votes-led Q none led false false = none

  pub votes-cast : (Q : votes.History S D P G C → Type 0) → Q [] → Q (Led 3 ∷ Cast (vote.Nullify v) ∷ []) → (behind here : Bool)
      → Q (if behind then [] else (if here then Led 3 ∷ (if here then Cast (vote.Nullify v) ∷ [] else []) else (if here then Cast (vote.Nullify v) ∷ [] else [])))
  votes-cast Q none cast true here = none
  votes-cast Q none cast false true = cast
  votes-cast Q none cast false false = none

  -- or a certificate that the view is given up; and the leader of the next one is known
  pub votes-taken : (c : Certificate S D P G C) (Q : votes.History S D P G C → Type 0) → Q [] → Q (Led 3 ∷ []) → Q (Certified c ∷ Led 3 ∷ Cast (vote.Nullify v) ∷ []) → (behind two one : Bool) → (two ≡ true → one ≡ true → ⊥)
      → Q (if behind then [] else (if two then Led 3 ∷ (if one then Certified c ∷ (if one then Led 3 ∷ (if one then Cast (vote.Nullify v) ∷ [] else []) else (if one then Cast (vote.Nullify v) ∷ [] else [])) else (if one then Led 3 ∷ (if one then Cast (vote.Nullify v) ∷ [] else []) else (if one then Cast (vote.Nullify v) ∷ [] else [])))
      else (if one then Certified c ∷ (if one then Led 3 ∷ (if one then Cast (vote.Nullify v) ∷ [] else []) else (if one then Cast (vote.Nullify v) ∷ [] else [])) else (if one then Led 3 ∷ (if one then Cast (vote.Nullify v) ∷ [] else []) else (if one then Cast (vote.Nullify v) ∷ [] else [])))))
  votes-taken c Q none led taken true two one apart = none
  votes-taken c Q none led taken false true true apart = absurd (apart refl refl)
  votes-taken c Q none led taken false true false apart = led
  votes-taken c Q none led taken false false true apart = taken
  votes-taken c Q none led taken false false false apart = none

  -- no construction is due of these
  pub next-none : (same : D → D → Bool) (round : Round) (own : S) (members : ℕ) (batchable tracks skipped : Bool)
      → next_kind {S = S} {D = D} {P = P} {G = G} {C = C} same (record { round = round; scheme = own; members = members; needed = 3; batchable = batchable; tracks = tracks; is_skipped = skipped }) (Led 3 ∷ []) ≡ None
  next-none same round own members batchable tracks true = refl
  next-none same round own members batchable tracks false = refl

  pub next-empty : (same : D → D → Bool) (round : Round) (own : S) (members : ℕ) (batchable tracks skipped : Bool)
      → next_kind {S = S} {D = D} {P = P} {G = G} {C = C} same (record { round = round; scheme = own; members = members; needed = 3; batchable = batchable; tracks = tracks; is_skipped = skipped }) [] ≡ None
  next-empty same round own members batchable tracks skipped = refl

  pub next-cast : (same : D → D → Bool) (round : Round) (own : S) (members : ℕ) (batchable tracks skipped : Bool)
      → next_kind {S = S} {D = D} {P = P} {G = G} {C = C} same (record { round = round; scheme = own; members = members; needed = 3; batchable = batchable; tracks = tracks; is_skipped = skipped }) (Led 3 ∷ Cast (vote.Nullify v) ∷ []) ≡ None
  next-cast same round own members batchable tracks true = refl
  next-cast same round own members batchable tracks false = refl

  pub next-taken : (c : Nullification S D P G C) (same : D → D → Bool) (round : Round) (own : S) (members : ℕ) (batchable tracks skipped : Bool)
      → next_kind {S = S} {D = D} {P = P} {G = G} {C = C} same (record { round = round; scheme = own; members = members; needed = 3; batchable = batchable; tracks = tracks; is_skipped = skipped }) (Certified (certificate.Nullification c) ∷ Led 3 ∷ Cast (vote.Nullify v) ∷ []) ≡ None
  next-taken c same round own members batchable tracks true = refl
  next-taken c same round own members batchable tracks false = refl

module _ {S D P G C : Type 0} (g : Ghosts S D P G C) (f : Formats S D P G C) (own : ℕ → S) (genesis : D) (i : ℕ) where
  abbrev s : Setup S D C
  s = set_up own genesis i

  -- what is used of a history of which nothing is due
  pub record IsQuiet (h : History S D P G C) : Type 0 where
    pub plain : (view : ℕ) → IsPlain (seen s.voter (voter_of s h) view)
    pub led : (view : ℕ) → (leader s.voter (voter_of s h) view ≡ None) ⊎ ((leader s.voter (voter_of s h) view ≡ Some 3) × (leader_of (votes_of s h view) ≡ Some 3))
    pub unselected : (view : ℕ) → selected (votes_of s h view) ≡ None
    pub unready : (view : ℕ) → next_kind f.same (votes_setup s g h view) (votes_of s h view) ≡ None
    pub mine : (view index : ℕ) → has_nullify (votes_of s h view) index ≡ true → index ≡ i
    pub waits : ¬ NullifyIsDue s.voter (voter_of s h) (latest h)
    pub retry_known : RetryIsKnown g f s h
    pub unasked : (number : ℕ) → build_at h number ≡ None
    pub settled : (view : ℕ) → IsOutstanding 1 (repair_of f h) view → ⊥

  -- where the fourth member leads the first view alone
  leads-first : (h : History S D P G C) → IsCalm 1 (voter_of s h) → leader_of (votes_of s h 1) ≡ Some 3 → (view : ℕ)
      → (leader s.voter (voter_of s h) view ≡ None) ⊎ ((leader s.voter (voter_of s h) view ≡ Some 3) × (leader_of (votes_of s h view) ≡ Some 3))
  leads-first h calm first_led view = ⊎_elim
      (λ none. inl none)
      (λ three. inr (three.0, subst (λ (w : ℕ). leader_of (votes_of s h w) ≡ Some 3) (one-is view three.1 three.2) first_led))
      (calm-leads s.voter 1 (λ before w. refl) (λ w c. refl) refl (omega arith) (voter_of s h) calm view)

  -- where no certificate came
  settles : (h : History S D P G C) → repair_of f h ≡ Replayed ∷ [] → (view : ℕ) → IsOutstanding 1 (repair_of f h) view → ⊥
  settles h is view out = go (subst (λ (r : List Item). IsOutstanding 1 r view) is out)
    where
      go : IsOutstanding 1 (Replayed ∷ []) view → ⊥
      go x = ⊎_elim (λ below. let l : view < 0 = below.0 in omega (arith, l)) (λ failed. both_ways false refl failed) x.due

  module _ (small : i < 3) (h : History S D P G C) (q : IsQuiet h) where
    is-still : IsStill g f s h
    is-still = record {
      unconfirmed = λ view is. subst (λ (o : List (Offer D)). IsConfirmed o) (q.plain view).offers is;
      unheld = λ view from. ap (λ (o : List (Offer D)). held o) (q.plain view).offers;
      unnotarized = λ view. (q.plain view).notarization;
      others = λ view index is same. ⊎_elim
          (λ none. none-some index (sym none ∙ is))
          (λ three. omega (arith, ap (λ (o : Option ℕ). unwrap_or o 0) (sym three.0 ∙ is), same, small))
          (q.led view);
      led = λ view index is none. ⊎_elim
          (λ nobody. none-some index (sym nobody ∙ is))
          (λ three. none-some 3 (sym none ∙ three.1))
          (q.led view);
      unforwarded = λ view. stays-none (not (has_forwarded (votes_of s h view)) && is_another (leader_of (votes_of s h view)) i) (selected (votes_of s h view)) (q.unselected view);
      unready = q.unready;
      mine = q.mine;
      waits = q.waits;
      retry_known = q.retry_known;
      unasked = q.unasked;
      settled = q.settled;
    }

    pub none-due : NoneDue g f s h
    none-due = still g f s refl refl refl h is-still

  module _ (signed : ℕ → G) (size : g.size (own i) ≡ 4) where
    -- the opening of an empty record; that of one with the nullify; and how that is repeated
    abbrev pub opened_first : History S D P G C
    opened_first = Leads 1 3 ∷ Began ∷ Opened 0 ∷ []

    abbrev pub opened_again : History S D P G C
    opened_again = Polls ∷ Leads 1 3 ∷ Began ∷ Found (artifact.Nullify (nullify_of signed i)) false ∷ Opened 2000 ∷ []

    abbrev pub has_repeated : History S D P G C
    has_repeated = Polls ∷ Repeats (nullify_of signed i) None ∷ Told 3000 ∷ opened_again

    abbrev Unready : History S D P G C → ℕ → votes.History S D P G C → Type 0
    Unready h view r = next_kind {S = S} {D = D} {P = P} {G = G} {C = C} f.same (votes_setup s g h view) r ≡ None

    -- of a committee of four three are needed
    needed-three : (h : History S D P G C) (view : ℕ) (r : votes.History S D P G C)
        → next_kind {S = S} {D = D} {P = P} {G = G} {C = C} f.same (record { round = (votes_setup s g h view).round; scheme = own i; members = g.size (own i); needed = 3; batchable = g.batchable (own i); tracks = false; is_skipped = (votes_setup s g h view).is_skipped }) r ≡ None
        → Unready h view r
    needed-three h view r none =
        subst (λ (n : ℕ). next_kind {S = S} {D = D} {P = P} {G = G} {C = C} f.same (record { round = (votes_setup s g h view).round; scheme = own i; members = g.size (own i); needed = quorum n; batchable = g.batchable (own i); tracks = false; is_skipped = (votes_setup s g h view).is_skipped }) r ≡ None) (sym size) none

    is-mine : (index : ℕ) → has_nullify {S = S} {D = D} {P = P} {G = G} {C = C} (Led 3 ∷ Cast (vote.Nullify (nullify_of signed i)) ∷ []) index ≡ true → index ≡ i
    is-mine index e = go (i == index) refl e
      where
        go : (b : Bool) → (i == index) ≡ b → is_some (find (λ (w : Vote S D P G C). b && true) (vote.Nullify (nullify_of signed i) ∷ [])) ≡ true → index ≡ i
        go true is some = sym (eqb-true i index is)
        go false is some = absurd (both_ways false refl some)

    pub quiet-first : IsQuiet opened_first
    quiet-first = record {
      plain = calm-seen s.voter 1 (voter_of s opened_first) tt;
      led = leads-first opened_first tt refl;
      unselected = λ view. votes-led (nullify_of signed i) (λ (r : votes.History S D P G C). selected r ≡ None) refl refl (nat_lt view (floor_of s opened_first)) (1 == view);
      unready = λ view. votes-led (nullify_of signed i) (Unready opened_first view)
          (needed-three opened_first view []
          (next-empty {S = S} {D = D} {P = P} {G = G} {C = C} (nullify_of signed i) f.same (votes_setup s g opened_first view).round (own i) (g.size (own i)) (g.batchable (own i)) false (votes_setup s g opened_first view).is_skipped))
          (needed-three opened_first view (Led 3 ∷ [])
          (next-none {S = S} {D = D} {P = P} {G = G} {C = C} (nullify_of signed i) f.same (votes_setup s g opened_first view).round (own i) (g.size (own i)) (g.batchable (own i)) false (votes_setup s g opened_first view).is_skipped))
          (nat_lt view (floor_of s opened_first)) (1 == view);
      mine = λ view index. votes-led (nullify_of signed i) (λ (r : votes.History S D P G C). has_nullify r index ≡ true → index ≡ i) (λ e. absurd (both_ways false refl e)) (λ e. absurd (both_ways false refl e)) (nat_lt view (floor_of s opened_first)) (1 == view);
      waits = λ due. let e : 1000 ≡ due.moment = ap moment_of due.next in let r : due.moment ≤ 0 = due.reached in omega (arith, e, r);
      retry_known = λ e. absurd (both_ways false refl e);
      unasked = λ number. refl;
      settled = settles opened_first refl;
    }

    quiet-cast : (h : History S D P G C) → ((Q : votes.History S D P G C → Type 0) → Q [] → Q (Led 3 ∷ Cast (vote.Nullify (nullify_of signed i)) ∷ []) → (view : ℕ) → Q (votes_of s h view))
        → IsCalm 1 (voter_of s h) → leader_of (votes_of s h 1) ≡ Some 3 → (¬ NullifyIsDue s.voter (voter_of s h) (latest h)) → RetryIsKnown g f s h → ((number : ℕ) → build_at h number ≡ None) → repair_of f h ≡ Replayed ∷ []
        → IsQuiet h
    quiet-cast h cases calm led waits retry_known unasked repairs = record {
      plain = calm-seen s.voter 1 (voter_of s h) calm;
      led = leads-first h calm led;
      unselected = λ view. cases (λ (r : votes.History S D P G C). selected r ≡ None) refl refl view;
      unready = λ view. cases (Unready h view)
          (needed-three h view []
          (next-empty {S = S} {D = D} {P = P} {G = G} {C = C} (nullify_of signed i) f.same (votes_setup s g h view).round (own i) (g.size (own i)) (g.batchable (own i)) false (votes_setup s g h view).is_skipped))
          (needed-three h view (Led 3 ∷ Cast (vote.Nullify (nullify_of signed i)) ∷ [])
          (next-cast {S = S} {D = D} {P = P} {G = G} {C = C} (nullify_of signed i) f.same (votes_setup s g h view).round (own i) (g.size (own i)) (g.batchable (own i)) false (votes_setup s g h view).is_skipped))
          view;
      mine = λ view index. cases (λ (r : votes.History S D P G C). has_nullify r index ≡ true → index ≡ i) (λ e. absurd (both_ways false refl e)) (is-mine index) view;
      waits = waits;
      retry_known = retry_known;
      unasked = unasked;
      settled = settles h repairs;
    }

    pub quiet-again : IsQuiet opened_again
    quiet-again = quiet-cast opened_again (λ Q none cast view. votes-cast (nullify_of signed i) Q none cast (nat_lt view (floor_of s opened_again)) (1 == view))
        tt refl (λ due. let e : 3000 ≡ due.moment = ap moment_of due.next in let r : due.moment ≤ 2000 = due.reached in omega (arith, e, r)) (λ e. refl) (λ number. refl) refl

    pub quiet-repeated : IsQuiet has_repeated
    quiet-repeated = quiet-cast has_repeated (λ Q none cast view. votes-cast (nullify_of signed i) Q none cast (nat_lt view (floor_of s has_repeated)) (1 == view))
        tt refl (λ due. let e : 4000 ≡ due.moment = ap moment_of due.next in let r : due.moment ≤ 3000 = due.reached in omega (arith, e, r)) (λ e. refl) (λ number. refl) refl

    -- then the certificate is taken, and the next view entered
    module _ (packed : C) where
      abbrev pub has_taken : History S D P G C
      has_taken = Leads 2 3 ∷ Came (certificate.Nullification (nullification_of packed)) ∷ has_repeated

      apart-views : (view : ℕ) → (2 == view) ≡ true → (1 == view) ≡ true → ⊥
      apart-views view two one = omega (arith, eqb-true 2 view two, eqb-true 1 view one)

      taken-cases : (Q : votes.History S D P G C → Type 0) → Q [] → Q (Led 3 ∷ []) → Q (Certified (certificate.Nullification (nullification_of packed)) ∷ Led 3 ∷ Cast (vote.Nullify (nullify_of signed i)) ∷ []) → (view : ℕ) → Q (votes_of s has_taken view)
      taken-cases Q none led taken view = votes-taken (nullify_of signed i) (certificate.Nullification (nullification_of packed)) Q none led taken (nat_lt view (floor_of s has_taken)) (2 == view) (1 == view) (apart-views view)

      taken-calm : IsCalm 2 (voter_of s has_taken)
      taken-calm = (refl, omega arith, tt)

      taken-led : (view : ℕ) → (leader s.voter (voter_of s has_taken) view ≡ None) ⊎ ((leader s.voter (voter_of s has_taken) view ≡ Some 3) × (leader_of (votes_of s has_taken view) ≡ Some 3))
      taken-led view = ⊎_elim
          (λ none. inl none)
          (λ three. inr (
            three.0,
            ⊎_elim
                (λ one. subst (λ (w : ℕ). leader_of (votes_of s has_taken w) ≡ Some 3) one refl)
                (λ two. subst (λ (w : ℕ). leader_of (votes_of s has_taken w) ≡ Some 3) two refl)
                (one-or-two view three.1 three.2),
          ))
          (calm-leads s.voter 2 (λ before w. refl) (λ w c. refl) refl (omega arith) (voter_of s has_taken) taken-calm view)

      taken-settled : (view : ℕ) → IsOutstanding 1 (repair_of f has_taken) view → ⊥
      taken-settled view out = ⊎_elim
          (λ below. let l : view < 1 = below.0 in let low : 0 < view = out.above in omega (arith, l, low))
          (λ failed. both_ways false refl failed)
          out.due

      pub quiet-taken : IsQuiet has_taken
      quiet-taken = record {
        plain = calm-seen s.voter 2 (voter_of s has_taken) taken-calm;
        led = taken-led;
        unselected = λ view. taken-cases (λ (r : votes.History S D P G C). selected r ≡ None) refl refl refl view;
        unready = λ view. taken-cases (Unready has_taken view)
            (needed-three has_taken view [] (next-empty {S = S} {D = D} {P = P} {G = G} {C = C} (nullify_of signed i) f.same (votes_setup s g has_taken view).round (own i) (g.size (own i)) (g.batchable (own i)) false (votes_setup s g has_taken view).is_skipped))
            (needed-three has_taken view (Led 3 ∷ []) (next-none {S = S} {D = D} {P = P} {G = G} {C = C} (nullify_of signed i) f.same (votes_setup s g has_taken view).round (own i) (g.size (own i)) (g.batchable (own i)) false (votes_setup s g has_taken view).is_skipped))
            (needed-three has_taken view (Certified (certificate.Nullification (nullification_of packed)) ∷ Led 3 ∷ Cast (vote.Nullify (nullify_of signed i)) ∷ [])
            (next-taken {S = S} {D = D} {P = P} {G = G} {C = C} (nullify_of signed i) (nullification_of packed) f.same (votes_setup s g has_taken view).round (own i) (g.size (own i)) (g.batchable (own i)) false (votes_setup s g has_taken view).is_skipped))
            view;
        mine = λ view index. taken-cases (λ (r : votes.History S D P G C). has_nullify r index ≡ true → index ≡ i) (λ e. absurd (both_ways false refl e)) (λ e. absurd (both_ways false refl e)) (is-mine index) view;
        waits = λ due. let e : 4000 ≡ due.moment = ap moment_of due.next in let r : due.moment ≤ 3000 = due.reached in omega (arith, e, r);
        retry_known = λ e. absurd (both_ways false refl e);
        unasked = λ number. refl;
        settled = taken-settled;
      }
