-- What a construction gives that is due may be taken: its certificate may be recorded.
use Rattle.std.proofs.Common.{◌≡◌, ⊎_elim, ℕ, ◌<◌, ◌≤◌, ◌&&◌, ◌||◌, Bool, true, false, List, [], ◌∷◌, ◌++◌, ◌+◌, length, Option, Some, None, refl, sym, ◌∙◌, ap, subst, arith}
use Rattle.std.specs.Prelude.{Contains, IfSome, MatchBool, if◌then◌else◌, filter, is_some, nat_le, nat_lt, not, option_map}
use Rattle.std.proofs.lemmas.Bool.{and_parts, leb-true, ltb-true}
use Rattle.std.proofs.lemmas.List.Elements.{All-contains}
use Rattle.types_quorum.specs.Committee.{faults-few, quorum}
use Rattle.types_quorum.specs.Counting.{Contains-cases, Contains-nil}
use Rattle.types_core.specs.declared.position.Round.{Round}
use Rattle.types_core.specs.declared.scheme.Scheme.{Ghosts}
use Rattle.types_core.specs.Subject.{Statement, notarize, nullify, finalize, statement_round}
use Rattle.types_core.specs.Positions.{HasRoom}
use Rattle.messages_certificates.specs.declared.certificate.Certificate.{Certificate}
use Rattle.messages_certificates.specs.declared.certificate.Certificate.TheVariants as certificate
use Rattle.messages_certificates.specs.Artifact.{certificate_artifact}
use Rattle.messages_certificates.specs.Certificate.{certificate_round, certificate_statement, certified_by}
use Rattle.simplex_messages.specs.declared.vote.Vote.{Vote}
use Rattle.simplex_record.specs.Record.{entries, HasTaken}
use Rattle.simplex_record.specs.Rules.{AreAlike, HasParentBelow, MayTake}
use Rattle.types_terms.specs.declared.kind.Kind.{Kind}
use Rattle.types_terms.specs.declared.kind.Kind.TheVariants.{Notarization, Nullification, Finalization}
use Rattle.batcher_verifier.specs.declared.batch.Batch.{Batch}
use Rattle.batcher_verifier.specs.History as votes
use Rattle.batcher_verifier.specs.History.{Taken, Cast, Judged, accepted, context, counting, is_candidate, is_complete, is_due, is_ready, is_worth_judging, next_kind, selected, verified, waiting}
use Rattle.batcher_verifier.specs.Lawful.{IsLawful}
use Rattle.batcher_verifier.specs.ConstructionResult.{IsBatch, IsCertificateOn, IsFounded, IsOfVerified, IsOfWaiting}
use Rattle.batcher_verifier.specs.Votes.{is_kind, vote_kind, vote_statement}
use Rattle.simplex_member.specs.Allowed.{Allowed, AreAllowed, MayRecord}
use Rattle.simplex_member.specs.Laws.{RecordLaws, RoundLaws}
use Rattle.simplex_member.specs.Layers.{all_votes, floor_of, is_begun, passes_over, stage, votes_of, votes_setup, Stage, Unopened, Collected, PassedOver, IsUp, skips}
use Rattle.simplex_member.specs.Packet.{Formats, IsRecordable}
use Rattle.simplex_member.specs.Point.{Point, Constructs, Heard, History}
use Rattle.simplex_member.specs.Recorded.{added_by, record_of}
use Rattle.simplex_member.specs.Setup.{Setup}
use Rattle.simplex_member.proofs.Ballots.{kept-all, stage-kept, votes-lawful}
use Rattle.simplex_member.proofs.Blame.{parent-below}
use Rattle.simplex_member.proofs.Coming.{either-true, stage-beyond, stage-room}
use Rattle.simplex_member.proofs.Completing.{kind-stated, statement_kind, taken-completes}
use Rattle.simplex_member.proofs.Going.{allowed-lawful}
use Rattle.simplex_member.proofs.Listed.{accepted-known, kept-only}
use Rattle.simplex_member.proofs.Lists.{if-some, some-is, some-of}
use Rattle.simplex_member.proofs.Peace.{find-there}
use Rattle.simplex_member.proofs.Raising.{certificate-stated}
use Rattle.simplex_member.proofs.Telling.{apart}

-- a committee of some has a quorum of some
pub quorum-some : (n : ℕ) → 0 < n → 0 < quorum n
quorum-some n some = let few = faults-few n (omega (arith, some)) in omega (arith, few, some)

both-none : {X : Type 0} (b : Bool) (xs ys : List X) → xs ≡ [] → ys ≡ [] → (if b then xs else ys) ≡ []
both-none true xs ys first second = first
both-none false xs ys first second = second

module _ {D : Type 0} where
  -- statements that are alike are of one kind and view
  alike-kind : (x y : Statement D) → AreAlike x y → statement_kind y ≡ statement_kind x
  alike-kind (notarize p) (notarize q) alike = refl
  alike-kind (nullify p) (nullify q) alike = refl
  alike-kind (finalize p) (finalize q) alike = refl
  alike-kind (notarize p) (nullify q) alike = absurd alike
  alike-kind (notarize p) (finalize q) alike = absurd alike
  alike-kind (nullify p) (notarize q) alike = absurd alike
  alike-kind (nullify p) (finalize q) alike = absurd alike
  alike-kind (finalize p) (notarize q) alike = absurd alike
  alike-kind (finalize p) (nullify q) alike = absurd alike

  alike-view : (x y : Statement D) → AreAlike x y → (statement_round y).view ≡ (statement_round x).view
  alike-view (notarize p) (notarize q) alike = sym alike
  alike-view (nullify p) (nullify q) alike = sym alike
  alike-view (finalize p) (finalize q) alike = sym alike
  alike-view (notarize p) (nullify q) alike = absurd alike
  alike-view (notarize p) (finalize q) alike = absurd alike
  alike-view (nullify p) (notarize q) alike = absurd alike
  alike-view (nullify p) (finalize q) alike = absurd alike
  alike-view (finalize p) (notarize q) alike = absurd alike
  alike-view (finalize p) (nullify q) alike = absurd alike

module _ {S D P G C : Type 0} (same : D → D → Bool) (t : votes.Setup S) (k : Kind) where
  -- ---- where a view is passed over no vote counts

  module _ (passed : t.is_skipped ≡ true) where
    none-count : (r : votes.History S D P G C) (all : List (Vote S D P G C)) → counting same t k r all ≡ []
    none-count r all = ap (λ (b : Bool). if b || is_complete k r then [] else filter (is_candidate same (selected r)) all) passed

    none-waits : (r : votes.History S D P G C) → waiting same t k r ≡ []
    none-waits [] = refl
    none-waits (Taken v ∷ r) = none-count (Taken v ∷ r) (if is_kind k (vote_kind v) then waiting same t k r ++ v ∷ [] else waiting same t k r)
    none-waits (Judged kind failing ∷ r) = go (is_kind k kind) (none-waits r)
      where
        go : (b : Bool) → waiting same t k r ≡ [] → (if b then [] else waiting same t k r) ≡ []
        go true before = refl
        go false before = before
    none-waits (e ∷ r) = none-count (e ∷ r) (waiting same t k r)

    none-verified : (r : votes.History S D P G C) → verified same t k r ≡ []
    none-verified [] = refl
    none-verified (Cast v ∷ r) = none-count (Cast v ∷ r) (if is_kind k (vote_kind v) then verified same t k r ++ v ∷ [] else verified same t k r)
    none-verified (Judged kind failing ∷ r) = both-none (is_kind k kind) _ (verified same t k r) (rw (none-verified r, none-waits r) refl) (none-verified r)
    none-verified (e ∷ r) = none-count (e ∷ r) (verified same t k r)

  -- ---- where a construction is due votes count

  module _ (r : votes.History S D P G C) (some : 0 < t.needed) where
    ready-counts : is_ready same t k r ≡ true → (v : Vote S D P G C) × Contains (verified same t k r) v
    ready-counts ready =
        let enough = leb-true t.needed (length (verified same t k r)) (and_parts (nat_le t.needed (length (verified same t k r))) (is_some (context t k r) || votes.are_one same (verified same t k r)) ready).0 in
        some-of (verified same t k r) (omega (arith, enough, some))

    worth-counts : is_worth_judging same t k r ≡ true → (v : Vote S D P G C) × Contains (waiting same t k r) v
    worth-counts worth =
        let rest = (and_parts (is_some (context t k r)) (nat_lt 0 (length (waiting same t k r)) && (not t.batchable || nat_le t.needed (length (verified same t k r) + length (waiting same t k r)))) worth).1 in
        let one = ltb-true 0 (length (waiting same t k r)) (and_parts (nat_lt 0 (length (waiting same t k r))) (not t.batchable || nat_le t.needed (length (verified same t k r) + length (waiting same t k r))) rest).0 in
        some-of (waiting same t k r) (omega (arith, one))

    -- so none is due where the view is passed over
    due-kept : is_due same t k r ≡ true → t.is_skipped ≡ false
    due-kept due = go t.is_skipped refl
      where
        none-there : (xs : List (Vote S D P G C)) → xs ≡ [] → (v : Vote S D P G C) × Contains xs v → ⊥
        none-there xs none found = Contains-nil found.0 (subst (λ (l : List (Vote S D P G C)). Contains l found.0) none found.1)

        go : (b : Bool) → t.is_skipped ≡ b → b ≡ false
        go false e = refl
        go true e = absurd (either-true (is_ready same t k r) (is_worth_judging same t k r) ⊥ due
            (λ ready. none-there (verified same t k r) (none-verified e r) (ready-counts ready))
            (λ worth. none-there (waiting same t k r) (none-waits e r) (worth-counts worth)))

module _ {S D P G C : Type 0} (g : Ghosts S D P G C) (f : Formats S D P G C) (s : Setup S D C) (grows : RecordLaws g) (laws : RoundLaws g f.same) where
  -- a vote that was heard names a parent below, if it names one; so does each accepted one
  heard-below : (h : History S D P G C) → AreAllowed g f s h → (v : Vote S D P G C) → Contains h (Heard v) → HasParentBelow (vote_statement v)
  heard-below [] all v here = absurd (Contains-nil (Heard v) here)
  heard-below (p ∷ h) all v here = ⊎_elim
      (λ is. let a : Allowed g f s h (Heard v) = subst (λ (q : Point S D P G C). Allowed g f s h q) is all.0 in a.due.parent)
      (λ later. heard-below h all.1 v later)
      (Contains-cases p h (Heard v) here)

  accepted-below : (h : History S D P G C) → AreAllowed g f s h → (view : ℕ) (v : Vote S D P G C) → Contains (accepted (votes_of s h view)) v → HasParentBelow (vote_statement v)
  accepted-below h all view v here =
      let from = accepted-known g f s h all view v (kept-only (nat_lt view (floor_of s h)) (all_votes view h) v here) in
      ⊎_elim (λ heard. heard-below h all v heard) (λ own. parent-below g f s (record_of h) (allowed-lawful g f s grows h all) v own.1) from.known

  -- a certificate of the epoch that certifies and may be taken may be recorded
  may-record : (h : History S D P G C) (c : Certificate S D P G C) → (certificate_round c).epoch ≡ s.voter.epoch → g.certifies s.voter.scheme (certificate_statement c) (certified_by c)
      → MayTake s.voter.length (entries (record_of h)) (certificate_statement c) → MayRecord g f s h (certificate_artifact c)
  may-record h (certificate.Notarization c) epoch certifies may = record { verifies = record { epoch = epoch; verifies = certifies }; follows = may }
  may-record h (certificate.Nullification c) epoch certifies may = record { verifies = record { epoch = epoch; verifies = certifies }; follows = may }
  may-record h (certificate.Finalization c) epoch certifies may = record { verifies = record { epoch = epoch; verifies = certifies }; follows = may }

  module _ (some : 0 < g.size s.voter.scheme) (h : History S D P G C) (all : AreAllowed g f s h) (view : ℕ) (up : IsUp (stage s h view)) (kind : Kind)
      (next : next_kind f.same (votes_setup s g h view) (votes_of s h view) ≡ Some kind) (batch : Batch (Certificate S D P G C)) (is : IsBatch g f.same (votes_setup s g h view) kind (votes_of s h view) batch) where
    abbrev t : votes.Setup S
    t = votes_setup s g h view

    abbrev r : votes.History S D P G C
    r = votes_of s h view

    needed : 0 < t.needed
    needed = quorum-some (g.size s.voter.scheme) some

    due : is_due f.same t kind r ≡ true
    due = (find-there (λ (k : Kind). is_due f.same t k r) (Notarization ∷ Nullification ∷ Finalization ∷ []) kind next).1

    sound : IsLawful f.same g.attests t r
    sound = votes-lawful g f s laws h all view up

    -- the view isn't passed over
    stage-is : stage s h view ≡ Collected
    stage-is = go (stage s h view) refl up
      where
        go : (o : Stage) → stage s h view ≡ o → IsUp o → o ≡ Collected
        go Unopened e none = absurd (apart none)
        go Collected e there = refl
        go PassedOver e there = absurd (apart (sym (sym (ap (λ (o : Stage). skips o (passes_over s h view)) e) ∙ due-kept f.same t kind r needed due)))

    module _ (c : Certificate S D P G C) (made : batch.certificate ≡ Some c) where
      founded : IsFounded g t kind r c
      founded = if-some (IsFounded g t kind r) batch.certificate c (laws.founded t r kind batch sound is) made

      -- an accepted vote states what the certificate states
      states : (v : Vote S D P G C) × Contains (accepted r) v × (vote_statement v ≡ certificate_statement c)
      states = go (is_ready f.same t kind r) refl is
        where
          go : (b : Bool) → is_ready f.same t kind r ≡ b → MatchBool b (IsOfVerified g f.same t kind r batch) (IsOfWaiting g f.same t kind r batch) → (v : Vote S D P G C) × Contains (accepted r) v × (vote_statement v ≡ certificate_statement c)
          go true ready of =
              let one = ready-counts f.same t kind r needed ready in
              let said = All-contains (λ (v : Vote S D P G C). vote_statement v ≡ certificate_statement of.certificate) (verified f.same t kind r) one.0 of.certificate_is.states one.1 in
              (one.0, laws.verified t r kind one.0 one.1, said ∙ ap (λ (d : Certificate S D P G C). certificate_statement d) (some-is of.certificate c (sym of.made ∙ made)))
          go false unready of =
              let worth = either-true (is_ready f.same t kind r) (is_worth_judging f.same t kind r) (is_worth_judging f.same t kind r ≡ true) due (λ ready. absurd (apart (sym unready ∙ ready))) (λ so. so) in
              let one = worth-counts f.same t kind r needed worth in
              let said = All-contains (λ (v : Vote S D P G C). vote_statement v ≡ of.states) (waiting f.same t kind r) one.0 (laws.stated t r kind of.states sound of.context_is) one.1 in
              let on = if-some (IsCertificateOn t kind of.states) batch.certificate c of.certificate_is made in
              (one.0, laws.waiting t r kind one.0 one.1, said ∙ sym on.states)

      view-is : (statement_round (certificate_statement c)).view ≡ view
      view-is = ap (λ (x : Round). x.view) (certificate-stated c ∙ founded.round_is)

      -- none alike is recorded: the kind would have its certificate
      first : (x : Statement D) → AreAlike (certificate_statement c) x → HasTaken (entries (record_of h)) x → ⊥
      first x alike taken =
          let kind_is : statement_kind x ≡ kind = alike-kind (certificate_statement c) x alike ∙ (kind-stated c ∙ founded.kind_is) in
          let at : (statement_round x).view ≡ view = alike-view (certificate_statement c) x alike ∙ view-is in
          let complete = subst (λ (k : Kind). is_complete k (all_votes (statement_round x).view h) ≡ true) kind_is (taken-completes g f s h all x taken) in
          let there = subst (λ (n : ℕ). is_complete kind (all_votes n h) ≡ true) at complete in
          let kept = kept-all g f s h view (stage-kept g f s h view up) in
          apart (sym (laws.unfinished t r kind needed due) ∙ subst (λ (l : votes.History S D P G C). is_complete kind l ≡ true) (sym kept) there)

      may : MayRecord g f s h (certificate_artifact c)
      may = may-record h c (ap (λ (x : Round). x.epoch) founded.round_is) founded.does_certify (record {
        from_one = subst (λ (n : ℕ). 1 ≤ n) (sym view-is) (stage-beyond g f s h all view up);
        room = subst (λ (n : ℕ). HasRoom s.voter.length n) (sym view-is) (stage-room s h view up);
        parent_below = subst (λ (x : Statement D). HasParentBelow x) states.2 (accepted-below h all view states.0 states.1);
        first = first;
      })

    made-fits : (o : Option (Certificate S D P G C)) → batch.certificate ≡ o → IfSome (option_map certificate_artifact o) (MayRecord g f s h)
    made-fits None e = tt
    made-fits (Some c) e = may c e

    pub made-allowed : is_begun h ≡ true → IfSome (added_by (Constructs view kind batch)) (IsRecordable f) → Allowed g f s h (Constructs view kind batch)
    made-allowed begun readable = record { order = begun; due = (stage-is, next, is); fits = made-fits batch.certificate refl; readable = readable }
