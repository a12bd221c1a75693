-- The votes of a kind after an event, as they are held.
use Rattle.std.proofs.Common.{◌≡◌, ℕ, Bool, true, false, not, ◌&&◌, ◌||◌, List, [], ◌∷◌, ◌++◌, refl, ap, sym, ◌∙◌, append-nil}
use Rattle.std.specs.Prelude.{Option, None, Some, filter, find, is_some, if◌then◌else◌}
use Rattle.std.specs.List.{filter_map}
use Rattle.std.specs.Option.{option_or}
use Rattle.std.proofs.lemmas.Bool.{and_parts}
use Rattle.std.proofs.lemmas.List.Elements.{filter-append}
use Rattle.types_core.specs.declared.proposal.Proposal.{Proposal}
use Rattle.simplex_messages.specs.declared.vote.Vote.{Vote}
use Rattle.messages_certificates.specs.declared.certificate.Certificate.{Certificate}
use Rattle.types_terms.specs.declared.kind.Kind.{Kind}
use Rattle.batcher_rows.specs.declared.rows.Rows.{Rows}
use Rattle.batcher_verifier.specs.declared.proposal_state.ProposalState.{ProposalState}
use Rattle.batcher_verifier.specs.Votes.{is_kind, vote_kind, certificate_kind}
use Rattle.batcher_verifier.specs.History.{History, accepted, leader_of, has_forwarded, Event, Taken, Cast, Certified, Led, Forwarded, Setup, Selection, Unknown, Leads, Fixed, select, proposal_of, selection, selected, certificate_in, is_complete, is_candidate, counting, waiting, verified}
use Rattle.batcher_rows.specs.Rows.{KindIs, AreNewest, PlacesStay, pushed}
use Rattle.batcher_rows.specs.Kinds.{kind-same}
use Rattle.batcher_rows.specs.Staying.{places-newest}
use Rattle.types_core.specs.declared.scheme.Scheme.{Ghosts}
use Rattle.batcher_verifier.specs.declared.verifier.Verifier.{Verifier}
use Rattle.batcher_verifier.specs.Lawful.{MayHappen}
use Rattle.batcher_verifier.specs.Keeping.{selection_of, KeepsFor, Counts, IsVerifierKept, IsChosen, KindKeeps}
use Rattle.batcher_verifier.proofs.Folding.{waiting-count, verified-count, selection-stays, counting-stays}

module _ {X : Type 0} where
  -- what counts passes
  counted-passes : (closed : Bool) (p : X → Bool) (xs : List X) → (if closed then [] else filter p xs) ≡ xs → filter p xs ≡ xs
  counted-passes true p xs e = rw (← e) refl
  counted-passes false p xs e = e

  -- where nothing is to be made, nothing counts
  counted-none : (closed : Bool) (p : X → Bool) (xs : List X) → (if closed then [] else filter p xs) ≡ xs → closed ≡ true → xs ≡ []
  counted-none true p xs e yes_ = sym e
  counted-none false p xs e yes_ = absurd (cc yes_)

  -- what passes, with one more that does
  pushed-passes : (b : Bool) (p : X → Bool) (xs : List X) (x : X) → filter p xs ≡ xs → (b ≡ true → p x ≡ true) → filter p (if b then xs ++ x ∷ [] else xs) ≡ (if b then xs ++ x ∷ [] else xs)
  pushed-passes false p xs x e here = e
  pushed-passes true p xs x e here = let yes_ : p x ≡ true = here refl in filter-append p xs (x ∷ []) ∙ rw (e, yes_) refl

  drop-one : (p : X → Bool) (xs : List X) (x : X) → p x ≡ false → filter p xs ≡ filter p (xs ++ x ∷ [])
  drop-one p xs x e = sym (filter-append p xs (x ∷ []) ∙ rw e (append-nil (filter p xs)))

  -- one more that is held where it counts, and then those that pass
  pushed-counts : (closed mine counts : Bool) (p : X → Bool) (xs : List X) (x : X) (passes : Bool) → p x ≡ passes → (closed ≡ true → xs ≡ []) → (mine ≡ true → counts ≡ (not closed && passes))
      → filter p (if counts && mine then xs ++ x ∷ [] else xs) ≡ (if closed then [] else filter p (if mine then xs ++ x ∷ [] else xs))
  pushed-counts true mine counts p xs x passes e empty one = rw (empty refl) (go mine counts one)
    where
      go : (mine counts : Bool) → (mine ≡ true → counts ≡ (not true && passes)) → filter p (if counts && mine then [] ++ x ∷ [] else []) ≡ []
      go true counts one = let none : counts ≡ false = one refl in rw none refl
      go false true one = refl
      go false false one = refl
  pushed-counts false false true p xs x passes e empty one = refl
  pushed-counts false false false p xs x passes e empty one = refl
  pushed-counts false true counts p xs x true e empty one = let all : counts ≡ true = one refl in rw all refl
  pushed-counts false true counts p xs x false e empty one = let none : counts ≡ false = one refl in rw none (drop-one p xs x e)

  -- what is left where nothing comes
  unpushed : (counts mine : Bool) (xs ys : List X) → (if (counts && false) && mine then ys else xs) ≡ xs
  unpushed true mine xs ys = refl
  unpushed false mine xs ys = refl

  -- those that pass, where something is to be made
  counts-open : (closed : Bool) (p : X → Bool) (xs : List X) → (closed ≡ true → xs ≡ []) → filter p xs ≡ (if closed then [] else filter p xs)
  counts-open true p xs empty = rw (empty refl) refl
  counts-open false p xs empty = refl

  -- those that pass after a certificate
  finished-counts : (skipped mine complete : Bool) (p : X → Bool) (xs : List X) → (skipped || complete ≡ true → xs ≡ []) → filter p (if mine then [] else xs) ≡ (if skipped || (mine || complete) then [] else filter p xs)
  finished-counts true true complete p xs empty = refl
  finished-counts false true complete p xs empty = refl
  finished-counts skipped false complete p xs empty = counts-open (skipped || complete) p xs empty

  finished-passes : (mine : Bool) (p : X → Bool) (xs : List X) → filter p xs ≡ xs → filter p (if mine then [] else xs) ≡ (if mine then [] else xs)
  finished-passes true p xs e = refl
  finished-passes false p xs e = e

  found-more : (b : Bool) (x : X) (o : Option X) → (b || is_some o) ≡ is_some (if b then Some x else o)
  found-more true x o = refl
  found-more false x o = refl

and-true : (a b : Bool) → (a && true) && b ≡ a && b
and-true true b = refl
and-true false b = refl

module _ {S D P G C : Type 0} where
  -- the same is said of the same votes
  pub kind-as : (kind : Kind) (rows : Rows S D P G C) (c d : Bool) (w x u v : List (Vote S D P G C)) → KindIs kind rows c w u → c ≡ d → w ≡ x → u ≡ v → KindIs kind rows d x v
  kind-as kind rows c d w x u v k e f g = rw (← e, ← f, ← g) k

module _ {S D P G C : Type 0} (same : D → D → Bool) (s : Setup S) (kind : Kind) where
  -- the votes of a kind after an event, where it was chosen among what was put down
  chosen : (h : History S D P G C) (e : Event (Vote S D P G C) (Certificate S D P G C)) (old next : ProposalState D) (before after : Rows S D P G C) (complete : Bool) (waits sure : List (Vote S D P G C))
      → KindIs kind before complete waits sure → KeepsFor same old next before after → selection_of next ≡ selection (e ∷ h) → complete ≡ is_complete kind (e ∷ h)
      → Counts same old next waits → Counts same old next sure
      → filter (is_candidate same (selected (e ∷ h))) waits ≡ waiting same s kind (e ∷ h)
      → filter (is_candidate same (selected (e ∷ h))) sure ≡ verified same s kind (e ∷ h)
      → KindKeeps same s kind after (e ∷ h)
  chosen h e old next before after complete waits sure is keeps one done w v wait very =
      let passing : (votes : List (Vote S D P G C)) → filter (is_candidate same (proposal_of (selection_of next))) votes ≡ filter (is_candidate same (selected (e ∷ h))) votes = λ votes. ap (λ (x : Selection D). filter (is_candidate same (proposal_of x)) votes) one in
      kind-as kind after complete (is_complete kind (e ∷ h)) _ (waiting same s kind (e ∷ h)) _ (verified same s kind (e ∷ h)) (keeps.kinds kind complete waits sure is w v) done (passing waits ∙ wait) (passing sure ∙ very)

  -- votes of which no other is selected count
  still : (h : History S D P G C) (old next : ProposalState D) (votes : List (Vote S D P G C)) → selection_of old ≡ selection h → counting same s kind h votes ≡ votes → Counts same old next votes
  still h old next votes one counts stays = rw (stays, one) (counted-passes (s.is_skipped || is_complete kind h) (is_candidate same (selected h)) votes counts)

  no-wait : (h : History S D P G C) → s.is_skipped || is_complete kind h ≡ true → waiting same s kind h ≡ []
  no-wait h = counted-none (s.is_skipped || is_complete kind h) (is_candidate same (selected h)) (waiting same s kind h) (waiting-count same s kind h)

  no-sure : (h : History S D P G C) → s.is_skipped || is_complete kind h ≡ true → verified same s kind h ≡ []
  no-sure h = counted-none (s.is_skipped || is_complete kind h) (is_candidate same (selected h)) (verified same s kind h) (verified-count same s kind h)

  -- a vote that counts passes, where it is put down
  pushed-stay : (h : History S D P G C) (v : Vote S D P G C) (old next : ProposalState D) (b : Bool) (votes : List (Vote S D P G C)) → selection_of old ≡ selection h → counting same s kind h votes ≡ votes
      → (b ≡ true → is_candidate same (proposal_of (selection_of next)) v ≡ true) → Counts same old next (if b then votes ++ v ∷ [] else votes)
  pushed-stay h v old next b votes one counts good stays = pushed-passes b (is_candidate same (proposal_of (selection_of next))) votes v (still h old next votes one counts stays) good

  -- a vote was accepted
  pub keeps-taken : (h : History S D P G C) (v : Vote S D P G C) (counts : Bool) (old next : ProposalState D) (before after : Rows S D P G C)
      → KindIs kind before (is_complete kind h) (pushed kind v (counts && true) (waiting same s kind h)) (pushed kind v (counts && false) (verified same s kind h))
      → KeepsFor same old next before after → selection_of old ≡ selection h → selection_of next ≡ selection (Taken v ∷ h)
      → (is_kind kind (vote_kind v) ≡ true → counts ≡ (not (s.is_skipped || is_complete kind h) && is_candidate same (selected (Taken v ∷ h)) v))
      → (counts ≡ true → is_candidate same (selected (Taken v ∷ h)) v ≡ true)
      → KindKeeps same s kind after (Taken v ∷ h)
  keeps-taken h v counts old next before after is keeps one two mine good =
      let e : Event (Vote S D P G C) (Certificate S D P G C) = Taken v in
      let p = is_candidate same (selected (e ∷ h)) in
      let mine_ = is_kind kind (vote_kind v) in
      let w = waiting same s kind h in
      let x = verified same s kind h in
      chosen h e old next before after (is_complete kind h) (if counts && mine_ then w ++ v ∷ [] else w) x
      (kind-as kind before _ _ _ _ _ _ is refl (ap (λ (b : Bool). if b then w ++ v ∷ [] else w) (and-true counts mine_)) (unpushed counts mine_ x (x ++ v ∷ []))) keeps two refl
      (pushed-stay h v old next (counts && mine_) w one (waiting-count same s kind h) (λ b. rw two (good (and_parts counts mine_ b).0)))
      (still h old next x one (verified-count same s kind h))
      (pushed-counts (s.is_skipped || is_complete kind h) mine_ counts p w v (p v) refl (no-wait h) mine)
      (counts-open (s.is_skipped || is_complete kind h) p x (no-sure h))

  -- an own vote was given
  pub keeps-cast : (h : History S D P G C) (v : Vote S D P G C) (counts : Bool) (old next : ProposalState D) (before after : Rows S D P G C)
      → KindIs kind before (is_complete kind h) (pushed kind v (counts && false) (waiting same s kind h)) (pushed kind v (counts && true) (verified same s kind h))
      → KeepsFor same old next before after → selection_of old ≡ selection h → selection_of next ≡ selection (Cast v ∷ h)
      → (is_kind kind (vote_kind v) ≡ true → counts ≡ (not (s.is_skipped || is_complete kind h) && is_candidate same (selected (Cast v ∷ h)) v))
      → (counts ≡ true → is_candidate same (selected (Cast v ∷ h)) v ≡ true)
      → KindKeeps same s kind after (Cast v ∷ h)
  keeps-cast h v counts old next before after is keeps one two mine good =
      let e : Event (Vote S D P G C) (Certificate S D P G C) = Cast v in
      let p = is_candidate same (selected (e ∷ h)) in
      let mine_ = is_kind kind (vote_kind v) in
      let w = waiting same s kind h in
      let x = verified same s kind h in
      chosen h e old next before after (is_complete kind h) w (if counts && mine_ then x ++ v ∷ [] else x)
      (kind-as kind before _ _ _ _ _ _ is refl (unpushed counts mine_ w (w ++ v ∷ [])) (ap (λ (b : Bool). if b then x ++ v ∷ [] else x) (and-true counts mine_))) keeps two refl
      (still h old next w one (waiting-count same s kind h))
      (pushed-stay h v old next (counts && mine_) x one (verified-count same s kind h) (λ b. rw two (good (and_parts counts mine_ b).0)))
      (counts-open (s.is_skipped || is_complete kind h) p w (no-wait h))
      (pushed-counts (s.is_skipped || is_complete kind h) mine_ counts p x v (p v) refl (no-sure h) mine)

  -- a certificate was recorded, or made
  pub keeps-certified : (h : History S D P G C) (c : Certificate S D P G C) (old next : ProposalState D) (before after : Rows S D P G C)
      → KindIs kind before (is_kind kind (certificate_kind c) || is_complete kind h) (if is_kind kind (certificate_kind c) then [] else waiting same s kind h) (if is_kind kind (certificate_kind c) then [] else verified same s kind h)
      → KeepsFor same old next before after → selection_of old ≡ selection h → selection_of next ≡ selection (Certified c ∷ h)
      → KindKeeps same s kind after (Certified c ∷ h)
  keeps-certified h c old next before after is keeps one two =
      let e : Event (Vote S D P G C) (Certificate S D P G C) = Certified c in
      let b = is_kind kind (certificate_kind c) in
      let p = is_candidate same (selected (e ∷ h)) in
      let rest = find (λ d. is_kind kind (certificate_kind d)) (filter_map certificate_in h) in
      let more : (b || is_some rest) ≡ is_complete kind (e ∷ h) = found-more b c rest in
      chosen h e old next before after (b || is_some rest) (if b then [] else waiting same s kind h) (if b then [] else verified same s kind h) is keeps two more
      (λ stays. finished-passes b (is_candidate same (proposal_of (selection_of next))) (waiting same s kind h) (still h old next (waiting same s kind h) one (waiting-count same s kind h) stays))
      (λ stays. finished-passes b (is_candidate same (proposal_of (selection_of next))) (verified same s kind h) (still h old next (verified same s kind h) one (verified-count same s kind h) stays))
      (rw (← more) (finished-counts s.is_skipped b (is_some rest) p (waiting same s kind h) (no-wait h)))
      (rw (← more) (finished-counts s.is_skipped b (is_some rest) p (verified same s kind h) (no-sure h)))

  -- the leader was named
  pub keeps-led : (h : History S D P G C) (i : ℕ) (old next : ProposalState D) (first after : Rows S D P G C)
      → KindKeeps same s kind first h → KeepsFor same old next first after → selection_of old ≡ selection h → selection_of next ≡ selection (Led i ∷ h)
      → KindKeeps same s kind after (Led i ∷ h)
  keeps-led h i old next first after k keeps one two =
      chosen h (Led i) old next first after (is_complete kind h) (waiting same s kind h) (verified same s kind h) k keeps two refl
      (still h old next (waiting same s kind h) one (waiting-count same s kind h))
      (still h old next (verified same s kind h) one (verified-count same s kind h))
      (counts-open (s.is_skipped || is_complete kind h) (is_candidate same (selected (Led i ∷ h))) (waiting same s kind h) (no-wait h))
      (counts-open (s.is_skipped || is_complete kind h) (is_candidate same (selected (Led i ∷ h))) (verified same s kind h) (no-sure h))

  -- the selected proposal was forwarded
  keeps-forwarded : (h : History S D P G C) (rows : Rows S D P G C) → KindKeeps same s kind rows h → KindKeeps same s kind rows (Forwarded ∷ h)
  keeps-forwarded h rows keeps = kind-as kind rows _ _ _ _ _ _ keeps refl
      (sym (counting-stays same s kind Forwarded h (waiting same s kind h) (ap proposal_of (selection-stays h)) refl (waiting-count same s kind h)))
      (sym (counting-stays same s kind Forwarded h (verified same s kind h) (ap proposal_of (selection-stays h)) refl (verified-count same s kind h)))

module _ {S D P G C : Type 0} (same : D → D → Bool) (s : Setup S) (h : History S D P G C) (e : Event (Vote S D P G C) (Certificate S D P G C)) (v : Vote S D P G C) (counts : Bool) where
  -- whether a vote counts, said of its kind
  pub counts-mine : counts ≡ (not (s.is_skipped || is_complete (vote_kind v) h) && is_candidate same (selected (e ∷ h)) v)
      → (kind : Kind) → is_kind kind (vote_kind v) ≡ true → counts ≡ (not (s.is_skipped || is_complete kind h) && is_candidate same (selected (e ∷ h)) v)
  counts-mine is kind mine = let one : vote_kind v ≡ kind = kind-same kind (vote_kind v) mine in rw one at is

  -- what counts is for what is selected
  pub counts-good : counts ≡ (not (s.is_skipped || is_complete (vote_kind v) h) && is_candidate same (selected (e ∷ h)) v) → counts ≡ true → is_candidate same (selected (e ∷ h)) v ≡ true
  counts-good is yes_ = (and_parts (not (s.is_skipped || is_complete (vote_kind v) h)) (is_candidate same (selected (e ∷ h)) v) (sym is ∙ yes_)).1

-- the selection stays where nothing is fixed and the leader has no proposal
pub select-nothing : {D : Type 0} (x : Selection D) → select x None None ≡ x
select-nothing Unknown = refl
select-nothing (Leads p) = refl
select-nothing (Fixed p) = refl

-- a leader's proposal is selected where nothing else is
pub select-or : {D : Type 0} (old : Selection D) (led : Option (Proposal D)) → proposal_of (select old None led) ≡ option_or (proposal_of old) led
select-or Unknown None = refl
select-or Unknown (Some p) = refl
select-or (Leads p) led = refl
select-or (Fixed p) led = refl

-- a leader's proposal is looked at where nothing is selected
pub select-led : {D : Type 0} (old : Selection D) (l m : Option (Proposal D)) → (proposal_of old ≡ None → l ≡ m) → select old None l ≡ select old None m
select-led Unknown l m e = ap (λ o. select Unknown None o) (e refl)
select-led (Leads p) l m e = refl
select-led (Fixed p) l m e = refl

-- what is not there on the right, and on the left
pub none-right : {X : Type 0} (a : Bool) (o : Option X) → a || is_some o ≡ false → o ≡ None
none-right true o e = absurd (cc e)
none-right false None e = refl
none-right false (Some x) e = absurd (cc e)

pub none-left : {X : Type 0} (o : Option X) (b : Bool) → is_some o || b ≡ false → o ≡ None
none-left None b e = refl
none-left (Some x) b e = absurd (cc e)

module _ {S D P G C : Type 0} (same : D → D → Bool) where
  -- the same stays selected, and nothing is dropped
  pub stays-for : (state : ProposalState D) (rows : Rows S D P G C) → KeepsFor same state state rows rows
  stays-for state rows = record {
    places = record { members_stay = refl; votes_stay = λ side i. refl };
    kinds = λ kind complete wait sure k w v. kind-as kind rows _ _ _ _ _ _ k refl (sym (w refl)) (sym (v refl));
  }

  pub stays-chosen : (v : Verifier S D P G C) → IsChosen same v.proposal v v
  stays-chosen v = record {
    round_stays = refl;
    scheme_stays = refl;
    needed_stays = refl;
    skipped_stays = refl;
    leader_stays = refl;
    selects = refl;
    keeps = stays-for v.proposal v.rows;
  }

-- where nothing is selected every vote counts
filter-none : {S D P G C : Type 0} (same : D → D → Bool) (votes : List (Vote S D P G C)) → votes ≡ filter (is_candidate same None) votes
filter-none same [] = refl
filter-none same (v ∷ votes) = ap (λ rest. v ∷ rest) (filter-none same votes)

module _ {S D P G C : Type 0} (same : D → D → Bool) where
  -- rows from which nothing goes, since nothing is selected
  pub none-goes : (old next : ProposalState D) (rows : Rows S D P G C) → proposal_of (selection_of next) ≡ None → KeepsFor same old next rows rows
  none-goes old next rows none = record {
    places = record { members_stay = refl; votes_stay = λ side i. refl };
    kinds = λ kind complete wait sure k w v. rw none (kind-as kind rows _ _ _ _ _ _ k refl (filter-none same wait) (filter-none same sure));
  }

  -- rows from which the votes for other proposals went
  pub some-go : (old next : ProposalState D) (p : Proposal D) (before after : Rows S D P G C) → proposal_of (selection_of next) ≡ Some p → PlacesStay before after
      → ((kind : Kind) (complete : Bool) (wait sure : List (Vote S D P G C)) → KindIs kind before complete wait sure → KindIs kind after complete (filter (is_candidate same (Some p)) wait) (filter (is_candidate same (Some p)) sure))
      → KeepsFor same old next before after
  some-go old next p before after is places kinds = record { places = places; kinds = λ kind complete wait sure k w v. rw is (kinds kind complete wait sure k) }

  module _ (g : Ghosts S D P G C) (batchable : S → Bool) where
    -- the verifier after an event that selects
    pub chosen-keeps : (s : Setup S) (h : History S D P G C) (e : Event (Vote S D P G C) (Certificate S D P G C)) (votes : List (Vote S D P G C)) (next : ProposalState D) (old mid new : Verifier S D P G C)
        → IsVerifierKept same g batchable s old h → mid.round ≡ old.round → mid.scheme ≡ old.scheme → mid.needed ≡ old.needed → mid.skipped ≡ old.skipped → mid.leader ≡ leader_of (e ∷ h)
        → IsChosen same next mid new → selection_of next ≡ selection (e ∷ h) → MayHappen same g.attests s h e
        → accepted (e ∷ h) ≡ votes → AreNewest mid.rows s.members votes → ((kind : Kind) → KindKeeps same s kind new.rows (e ∷ h))
        → IsVerifierKept same g batchable s new (e ∷ h)
    chosen-keeps s h e votes next old mid new k a b c d leader is one allowed these places kinds = record {
      round_is = is.round_stays ∙ a ∙ k.round_is;
      scheme_is = rw (is.scheme_stays, b) k.scheme_is;
      members_are = k.members_are;
      batchable_is = k.batchable_is;
      needed_is = is.needed_stays ∙ c ∙ k.needed_is;
      enough = k.enough;
      some_needed = k.some_needed;
      skipped_is = is.skipped_stays ∙ d ∙ k.skipped_is;
      leader_is = is.leader_stays ∙ leader;
      selection_is = is.selects ∙ one;
      rows = record { places = rw these (places-newest s.members votes mid.rows new.rows is.keeps.places places); kinds = kinds };
      lawful = (allowed, k.lawful);
    }

    -- the verifier stays where the selected proposal is forwarded
    pub forwarded-keeps : (s : Setup S) (v : Verifier S D P G C) (h : History S D P G C) → IsVerifierKept same g batchable s v h → has_forwarded h ≡ false → IsVerifierKept same g batchable s v (Forwarded ∷ h)
    forwarded-keeps s v h k fresh = record {
      round_is = k.round_is;
      scheme_is = k.scheme_is;
      members_are = k.members_are;
      batchable_is = k.batchable_is;
      needed_is = k.needed_is;
      enough = k.enough;
      some_needed = k.some_needed;
      skipped_is = k.skipped_is;
      leader_is = k.leader_is;
      selection_is = k.selection_is ∙ sym (selection-stays h);
      rows = record { places = k.rows.places; kinds = λ kind. keeps-forwarded same s kind h v.rows (k.rows.kinds kind) };
      lawful = (fresh, k.lawful);
    }
