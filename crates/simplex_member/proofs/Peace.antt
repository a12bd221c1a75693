-- No correct member contradicts itself to another.
use Rattle.std.proofs.Common.{◌≡◌, ◌⊎◌, inl, inr, ⊎_elim, ℕ, Bool, true, false, List, [], ◌∷◌, ◌++◌, Option, Some, None, refl, sym, ◌∙◌, ap, subst, arith}
use Rattle.std.specs.Prelude.{Contains, MatchOption, find, if◌then◌else◌, nat_lt}
use Rattle.std.proofs.lemmas.Option.{none-some}
use Rattle.std.proofs.lemmas.List.Elements.{All-contains}
use Rattle.types_quorum.specs.Counting.{Contains-cases, Contains-head, Contains-rest}
use Rattle.types_core.specs.declared.position.Round.{Round}
use Rattle.types_core.specs.declared.scheme.Scheme.{Ghosts}
use Rattle.messages_certificates.specs.declared.artifact.Artifact.{Artifact}
use Rattle.messages_certificates.specs.declared.artifact.Artifact.TheVariants as artifact
use Rattle.messages_certificates.specs.declared.certificate.Certificate.{Certificate}
use Rattle.simplex_messages.specs.declared.vote.Vote.{Vote}
use Rattle.simplex_messages.specs.declared.vote.Vote.TheVariants as vote
use Rattle.simplex_messages.specs.VoteParts.{vote_artifact}
use Rattle.simplex_messages.specs.VoteParts.{vote_round, vote_signer}
use Rattle.batcher_admission.specs.Evidence.{AreForTwo}
use Rattle.batcher_admission.specs.Blocking.{Offends}
use Rattle.simplex_batcher.specs.Admission.{IsBlocked}
use Rattle.simplex_record.specs.Lawful.{EverStands}
use Rattle.simplex_record.specs.Rules.{MayFollow, StandsByVotes}
use Rattle.simplex_record.specs.Record.{Entry, entry, entries}
use Rattle.types_terms.specs.declared.kind.Kind.{Kind}
use Rattle.batcher_verifier.specs.declared.batch.Batch.{Batch}
use Rattle.batcher_verifier.specs.ConstructionResult.{HasFailed}
use Rattle.simplex_record.specs.World.{World, IsCorrect}
use Rattle.batcher_verifier.specs.Votes.{is_in_way, vote_attestation, vote_kind, vote_statement}
use Rattle.batcher_verifier.specs.History.{accepted, is_kept_in_full, recorded}
use Rattle.simplex_member.specs.Allowed.{Allowed, AreAllowed}
use Rattle.simplex_member.specs.Laws.{AreReadBack, DoAttestAlike, HasHeard, IsKnownVote, IsOwnAndSound, LifeLaws, RoundLaws}
use Rattle.simplex_member.specs.Layers.{all_votes, floor_of, votes_of, votes_setup}
use Rattle.simplex_member.specs.Lives.{AreFaithful, CameIn, LiveByNodes, Members}
use Rattle.simplex_member.specs.Packet.{Formats, of_vote}
use Rattle.simplex_member.specs.Point.{Constructs, History}
use Rattle.simplex_member.specs.Setup.{IsOfOneMember, Setup, owner_of}
use Rattle.simplex_member.proofs.Ballots.{collected-up, none-in-way, votes-lawful, way-signer}
use Rattle.simplex_member.proofs.Blame.{LawfulEver, came-sound, splits}
use Rattle.simplex_member.proofs.Going.{Lawful}
use Rattle.simplex_member.proofs.Listed.{accepted-known, kept-only, signer-of, vote-entry}
use Rattle.simplex_member.proofs.Living.{votes-so}
use Rattle.simplex_member.proofs.Lists.{Contains-map, some-is}
use Rattle.simplex_member.proofs.Sameness.{mine-of}

-- what is found stands there, and passes
pub find-there : {X : Type 0} (p : X → Bool) (xs : List X) (x : X) → find p xs ≡ Some x → Contains xs x × (p x ≡ true)
find-there p [] x e = absurd (none-some x e)
find-there {X} p (y ∷ xs) x e = go (p y) refl e (λ rest. find-there p xs x rest)
  where
    go : (b : Bool) → p y ≡ b → (if b then Some y else find p xs) ≡ Some x → (find p xs ≡ Some x → Contains xs x × (p x ≡ true)) → Contains (y ∷ xs) x × (p x ≡ true)
    go true is e rest = let same = some-is y x e in (subst (λ (z : X). Contains (y ∷ xs) z) same (Contains-head y xs), subst (λ (z : X). p z ≡ true) same is)
    go false is e rest = let later = rest e in (Contains-rest y xs x later.0, later.1)

-- of two that stand in a list one stands before the other, or they are one
pub record Before {X : Type 0} (xs : List X) (x y : X) : Type 0 where
  pub before : List X
  pub behind : List X
  pub is : xs ≡ before ++ y ∷ behind
  pub there : Contains before x

pushed : {X : Type 0} (xs : List X) (z x y : X) → Before xs x y → Before (z ∷ xs) x y
pushed {X} xs z x y b = record { before = z ∷ b.before; behind = b.behind; is = ap (λ (l : List X). z ∷ l) b.is; there = Contains-rest z b.before x b.there }

front : {X : Type 0} (xs : List X) (z x y : X) → z ≡ x → Contains xs y → Before (z ∷ xs) x y
front {X} xs z x y is here =
    let at = splits xs y here in
    record { before = z ∷ at.before; behind = at.behind; is = ap (λ (l : List X). z ∷ l) at.is; there = subst (λ (w : X). Contains (z ∷ at.before) w) is (Contains-head z at.before) }

pub ordered : {X : Type 0} (xs : List X) (x y : X) → Contains xs x → Contains xs y → (x ≡ y) ⊎ (Before xs x y ⊎ Before xs y x)
ordered [] x y a b = absurd (omega (arith, a.1))
ordered (z ∷ xs) x y a b = ⊎_elim
    (λ first. ⊎_elim
    (λ too. inl (sym first ∙ too))
    (λ later. inr (inl (front xs z x y first later)))
    (Contains-cases z xs y b))
    (λ behind. ⊎_elim
    (λ first. inr (inr (front xs z y x first behind)))
    (λ later. ⊎_elim
    (λ same. inl same)
    (λ apart. inr (⊎_elim (λ l. inl (pushed xs z x y l)) (λ r. inr (pushed xs z y x r)) apart))
    (ordered xs x y behind later))
    (Contains-cases z xs y b))
    (Contains-cases z xs x a)

module _ {S D P G C : Type 0} where
  pub way-turned : (v u : Vote S D P G C) → is_in_way v u ≡ true → is_in_way u v ≡ true
  way-turned (vote.Notarize v) (vote.Notarize u) way = grind (arith, way)
  way-turned (vote.Nullify v) (vote.Nullify u) way = grind (arith, way)
  way-turned (vote.Nullify v) (vote.Finalize u) way = grind (arith, way)
  way-turned (vote.Finalize v) (vote.Nullify u) way = grind (arith, way)
  way-turned (vote.Finalize v) (vote.Finalize u) way = grind (arith, way)
  way-turned (vote.Notarize v) (vote.Nullify u) way = absurd (cc way)
  way-turned (vote.Notarize v) (vote.Finalize u) way = absurd (cc way)
  way-turned (vote.Nullify v) (vote.Notarize u) way = absurd (cc way)
  way-turned (vote.Finalize v) (vote.Notarize u) way = absurd (cc way)

  -- the vote that an artifact is
  abbrev as_vote : Artifact S D P G C → Option (Vote S D P G C)
  as_vote (artifact.Notarize v) = Some (vote.Notarize v)
  as_vote (artifact.Nullify v) = Some (vote.Nullify v)
  as_vote (artifact.Finalize v) = Some (vote.Finalize v)
  as_vote x = None

  vote-is : (v : Vote S D P G C) → as_vote (vote_artifact v) ≡ Some v
  vote-is (vote.Notarize v) = refl
  vote-is (vote.Nullify v) = refl
  vote-is (vote.Finalize v) = refl

  -- a vote doesn't offend itself
  not-for-two : (v : Vote S D P G C) → AreForTwo v v → ⊥
  not-for-two (vote.Notarize v) two = two refl
  not-for-two (vote.Finalize v) two = two refl
  not-for-two (vote.Nullify v) two = two

  none-offends : (b : Bool) (v : Vote S D P G C) → Offends b v v → ⊥
  none-offends true v off = off refl
  none-offends false v off = not-for-two v off

module _ {S D P G C : Type 0} (g : Ghosts S D P G C) (f : Formats S D P G C) (s : Setup S D C) where
  -- of a lawful record, two votes of one view of which one stands in the other's way are one
  behind-none : (r : List (Artifact S D P G C)) → Lawful g f s r → (v u : Vote S D P G C) → Before r (vote_artifact u) (vote_artifact v) → (vote_round u).view ≡ (vote_round v).view → is_in_way v u ≡ true → ⊥
  behind-none r lawful v u b at way =
      let fits = lawful b.before b.behind (vote_artifact v) b.is in
      none-in-way s.voter.length (entries b.before) v u fits.follows
      (subst (λ (e : Entry D). Contains (entries b.before) e) (vote-entry u) (Contains-map entry b.before (vote_artifact u) b.there)) at way

  pub one-way : (r : List (Artifact S D P G C)) (v u : Vote S D P G C) → (Before r (vote_artifact u) (vote_artifact v) → ⊥) → (Before r (vote_artifact v) (vote_artifact u) → ⊥)
      → Contains r (vote_artifact v) → Contains r (vote_artifact u) → u ≡ v
  one-way r v u none never here there = ⊎_elim
      (λ same. some-is u v (sym (vote-is u) ∙ (ap as_vote same ∙ vote-is v)))
      (λ apart. absurd (⊎_elim none never apart))
      (ordered r (vote_artifact u) (vote_artifact v) there here)

  pub one-a-way : (r : List (Artifact S D P G C)) → Lawful g f s r → (v u : Vote S D P G C) → Contains r (vote_artifact v) → Contains r (vote_artifact u) → (vote_round u).view ≡ (vote_round v).view → is_in_way v u ≡ true → u ≡ v
  one-a-way r lawful v u here there at way =
      one-way r v u (λ first. behind-none r lawful v u first at way) (λ last. behind-none r lawful u v last (sym at) (way-turned v u way)) here there

  -- and of all that was ever recorded
  votes-follow : (before : List (Entry D)) (v : Vote S D P G C) → StandsByVotes s.voter.length before (entry (vote_artifact v)) → MayFollow s.voter.length before (entry (vote_artifact v))
  votes-follow before (vote.Notarize v) stands = stands
  votes-follow before (vote.Nullify v) stands = stands
  votes-follow before (vote.Finalize v) stands = stands

  ever-none : (r : List (Artifact S D P G C)) → LawfulEver g f s r → (v u : Vote S D P G C) → Before r (vote_artifact u) (vote_artifact v) → (vote_round u).view ≡ (vote_round v).view → is_in_way v u ≡ true → ⊥
  ever-none r lawful v u b at way =
      let fits = lawful b.before b.behind (vote_artifact v) b.is in
      none-in-way s.voter.length (entries b.before) v u (votes-follow (entries b.before) v fits.stands)
      (subst (λ (e : Entry D). Contains (entries b.before) e) (vote-entry u) (Contains-map entry b.before (vote_artifact u) b.there)) at way

  pub ever-a-way : (r : List (Artifact S D P G C)) → LawfulEver g f s r → (v u : Vote S D P G C) → Contains r (vote_artifact v) → Contains r (vote_artifact u) → (vote_round u).view ≡ (vote_round v).view → is_in_way v u ≡ true → u ≡ v
  ever-a-way r lawful v u here there at way =
      one-way r v u (λ first. ever-none r lawful v u first at way) (λ last. ever-none r lawful u v last (sym at) (way-turned v u way)) here there

module _ {S D P G C : Type 0} (g : Ghosts S D P G C) (f : Formats S D P G C) (scheme : S) (m : Members S D P G C) (world : World S D P G C) where
  -- no vote of a correct member contradicts what a correct one heard
  pub none-contradicts : LifeLaws g → AreReadBack f → LiveByNodes g f scheme m world → AreFaithful g f scheme m world → (i j : ℕ) → IsCorrect world i → IsCorrect world j
      → (s : Setup S D C) → IsOfOneMember (m.setup i) s → (h : History S D P G C) → AreAllowed g f s h → HasHeard g f scheme m world i h → (v : Vote S D P G C) → CameIn g f scheme m world i j (of_vote v)
      → IsBlocked (votes_setup s g h (vote_round v).view) (votes_of s h (vote_round v).view) j v → ⊥
  none-contradicts basis back w faithful i j ci cj s own_setup h all heard v came blocked = ⊎_elim
      (λ named. named (sym sound.signer))
      (λ offends. go (recorded (votes_of s h (vote_round v).view) v) refl offends.2)
      blocked
    where
      sound : IsOwnAndSound world j v
      sound = came-sound g f scheme m world basis back w faithful i j ci cj v came

      lawful : LawfulEver g f (m.setup j) (world.recorded j)
      lawful = votes-so g f basis (m.setup j) (m.lives j) (world.recorded j) (w.lived j cj).0 (w.lived j cj).1

      mine : s.me ≡ i
      mine = mine-of g f scheme m world w i ci s own_setup

      same-vote : (u : Vote S D P G C) → recorded (votes_of s h (vote_round v).view) v ≡ Some u → u ≡ v
      same-vote u e =
          let found = find-there (is_in_way v) (accepted (votes_of s h (vote_round v).view)) u e in
          let from = accepted-known g f s h all (vote_round v).view u (kept-only (nat_lt (vote_round v).view (floor_of s h)) (all_votes (vote_round v).view h) u found.0) in
          let signer : vote_signer u ≡ j = way-signer v u found.1 ∙ sound.signer in
          let stands : Contains (world.recorded j) (vote_artifact u) = ⊎_elim
          (λ there. (came-sound g f scheme m world basis back w faithful i j ci cj u (subst (λ (k : ℕ). CameIn g f scheme m world i k (of_vote u)) signer (heard.came u there))).recorded)
          (λ own. subst (λ (k : ℕ). Contains (world.recorded k) (vote_artifact u)) (sym mine ∙ (sym own.0 ∙ signer)) (heard.recorded (vote_artifact u) own.1))
          from.known in
          ever-a-way g f (m.setup j) (world.recorded j) lawful v u sound.recorded stands (ap (λ (r : Round). r.view) from.ours) found.1

      go : (o : Option (Vote S D P G C)) → recorded (votes_of s h (vote_round v).view) v ≡ o
          → MatchOption o ⊥ (λ u. Offends (is_kept_in_full (votes_setup s g h (vote_round v).view) (vote_kind u) (votes_of s h (vote_round v).view)) u v) → ⊥
      go None e off = off
      go (Some u) e off = none-offends (is_kept_in_full (votes_setup s g h (vote_round v).view) (vote_kind u) (votes_of s h (vote_round v).view)) v
          (subst (λ (x : Vote S D P G C). Offends (is_kept_in_full (votes_setup s g h (vote_round v).view) (vote_kind u) (votes_of s h (vote_round v).view)) x v) (same-vote u e) off)

module _ {S D P G C : Type 0} (g : Ghosts S D P G C) (f : Formats S D P G C) (scheme : S) (m : Members S D P G C) (world : World S D P G C) where
  fits-attests : (s : Setup S D C) (before : List (Artifact S D P G C)) (v : Vote S D P G C) → EverStands (g.attests s.voter.scheme) (g.certifies s.voter.scheme) (owner_of s) before (vote_artifact v)
      → g.attests s.voter.scheme (vote_attestation v).signer (vote_statement v) (vote_attestation v).signature
  fits-attests s before (vote.Notarize v) fits = fits.verifies.verifies
  fits-attests s before (vote.Nullify v) fits = fits.verifies.verifies
  fits-attests s before (vote.Finalize v) fits = fits.verifies.verifies

  -- what a correct member recorded attests by its scheme
  recorded-attests : LifeLaws g → LiveByNodes g f scheme m world → (j : ℕ) → IsCorrect world j → (v : Vote S D P G C) → Contains (world.recorded j) (vote_artifact v)
      → g.attests (m.setup j).voter.scheme (vote_attestation v).signer (vote_statement v) (vote_attestation v).signature
  recorded-attests basis w j correct v here =
      let lawful = votes-so g f basis (m.setup j) (m.lives j) (world.recorded j) (w.lived j correct).0 (w.lived j correct).1 in
      let at = splits (world.recorded j) (vote_artifact v) here in
      fits-attests (m.setup j) at.before v (lawful at.before at.behind (vote_artifact v) at.is)

  -- a construction blocks no correct member, where what attests by one's scheme does by the other's
  pub none-invalid : LifeLaws g → RoundLaws g f.same → AreReadBack f → LiveByNodes g f scheme m world → AreFaithful g f scheme m world → DoAttestAlike g f scheme m world → (i j : ℕ) → IsCorrect world i → IsCorrect world j
      → (s : Setup S D C) → IsOfOneMember (m.setup i) s → (h : History S D P G C) → AreAllowed g f s h → HasHeard g f scheme m world i h → (view : ℕ) (kind : Kind) (batch : Batch (Certificate S D P G C))
      → Allowed g f s h (Constructs view kind batch) → Contains batch.invalid.items j → ⊥
  none-invalid basis laws back w faithful alike i j ci cj s own_setup h all heard view kind batch allowed here =
      let r = votes_of s h view in
      let sound = votes-lawful g f s laws h all view (collected-up allowed.due.0) in
      let bad = All-contains (HasFailed g.attests (votes_setup s g h view) kind r) batch.invalid.items j (laws.failed (votes_setup s g h view) r kind batch sound allowed.due.2) here in
      let from = accepted-known g f s h all view bad.vote (kept-only (nat_lt view (floor_of s h)) (all_votes view h) bad.vote bad.accepted_is) in
      bad.fails (subst (λ (n : ℕ). g.attests s.voter.scheme n (vote_statement bad.vote) (vote_attestation bad.vote).signature) (signer-of bad.vote) (attests-here bad.vote from.known bad.signer_is))
    where
      by-own : (v : Vote S D P G C) → g.attests (m.setup i).voter.scheme (vote_attestation v).signer (vote_statement v) (vote_attestation v).signature → g.attests s.voter.scheme (vote_attestation v).signer (vote_statement v) (vote_attestation v).signature
      by-own v attests = subst (λ (own : S). g.attests own (vote_attestation v).signer (vote_statement v) (vote_attestation v).signature) (sym own_setup.scheme) attests

      attests-here : (v : Vote S D P G C) → IsKnownVote g f s h v → vote_signer v ≡ j → g.attests s.voter.scheme (vote_attestation v).signer (vote_statement v) (vote_attestation v).signature
      attests-here v known signer = ⊎_elim
          (λ there.
          let sound = came-sound g f scheme m world basis back w faithful i j ci cj v (subst (λ (k : ℕ). CameIn g f scheme m world i k (of_vote v)) signer (heard.came v there)) in
          by-own v (alike i j ci cj (vote_attestation v).signer (vote_statement v) (vote_attestation v).signature (recorded-attests basis w j cj v sound.recorded)))
          (λ own. by-own v (recorded-attests basis w i ci v (heard.recorded (vote_artifact v) own.1)))
          known
