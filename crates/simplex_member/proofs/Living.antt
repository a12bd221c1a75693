-- What lives leave is lawful, and a world of lives is a world of lawful records.
use Rattle.std.proofs.Common.{◌≡◌, ◌⊎◌, inl, inr, ⊎_elim, ℕ, ◌≤◌, List, [], ◌∷◌, ◌++◌, refl, sym, ◌∙◌, ap, subst, arith}
use Rattle.std.specs.Prelude.{Contains}
use Rattle.types_quorum.specs.Counting.{Contains-head, Contains-nil}
use Rattle.types_core.specs.declared.scheme.Scheme.{Ghosts}
use Rattle.messages_certificates.specs.declared.artifact.Artifact.{Artifact}
use Rattle.messages_certificates.specs.declared.artifact.Artifact.TheVariants as artifact
use Rattle.messages_certificates.specs.ProposalVote.{Notarize}
use Rattle.types_core.specs.Quorum.{IsQuorum}
use Rattle.types_core.specs.Subject.{Statement}
use Rattle.messages_certificates.specs.declared.certificate.Certificate.{Certificate}
use Rattle.messages_certificates.specs.Certificate.{certificate_statement, certified_by}
use Rattle.simplex_record.specs.declared.owner.Owner.{Owner}
use Rattle.simplex_record.specs.Record.{Entry, entries, floor}
use Rattle.simplex_record.specs.Kept.{StandsForAll}
use Rattle.simplex_record.specs.Lawful.{EverFits, IsRecorded, IsRefusedAt, VotesLawfully, further, nothing, rewrote}
use Rattle.simplex_record.specs.World.{World, IsCorrect, IsHonest, IsSound, IsWorld}
use Rattle.simplex_member.specs.Floors.{IsLeftOf}
use Rattle.simplex_member.specs.Laws.{LifeLaws, RecordedAreHonest}
use Rattle.simplex_member.specs.Lives.{AtMostFLie, CameIn, Life, LiveByNodes, Lives, Members, WasBrought}
use Rattle.simplex_member.specs.Packet.{Formats, of_certificate}
use Rattle.simplex_member.specs.Setup.{Setup, owner_of}
use Rattle.simplex_member.proofs.Going.{Lawful}
use Rattle.simplex_member.proofs.Lists.{same-first, same-rest}
use Rattle.simplex_member.proofs.Three.{all-lists}

-- a list with one more behind it that splits: at that one, or before
none-there : {X : Type 0} (before : List X) (y : X) (behind : List X) → [] ≡ before ++ y ∷ behind → ⊥
none-there {X} [] y behind is = Contains-nil y (subst (λ (l : List X). Contains l y) (sym is) (Contains-head y behind))
none-there {X} (z ∷ before) y behind is = Contains-nil z (subst (λ (l : List X). Contains l z) (sym is) (Contains-head z (before ++ y ∷ behind)))

snoc-split : {X : Type 0} (xs : List X) (x : X) (before : List X) (y : X) (behind : List X) → xs ++ x ∷ [] ≡ before ++ y ∷ behind
    → ((x ≡ y) × (xs ≡ before)) ⊎ ((rest : List X) × (xs ≡ before ++ y ∷ rest))
snoc-split [] x [] y behind is = inl (same-first x y [] behind is, refl)
snoc-split [] x (b ∷ before) y behind is = absurd (none-there before y behind (same-rest x b [] (before ++ y ∷ behind) is))
snoc-split {X} (z ∷ xs) x [] y behind is = inr (xs, ap (λ (w : X). w ∷ xs) (same-first z y (xs ++ x ∷ []) behind is))
snoc-split {X} (z ∷ xs) x (b ∷ before) y behind is =
    let first = same-first z b (xs ++ x ∷ []) (before ++ y ∷ behind) is in
    let head = ap (λ (w : X). w ∷ xs) first in
    ⊎_elim
    (λ last. inl (last.0, head ∙ ap (λ (l : List X). b ∷ l) last.1))
    (λ more. inr (more.0, head ∙ ap (λ (l : List X). b ∷ l) more.1))
    (snoc-split xs x before y behind (same-rest z b (xs ++ x ∷ []) (before ++ y ∷ behind) is))

module _ {S D P G C : Type 0} (attests : ℕ → Statement D → G → Type 0) (certifies : Statement D → C → Type 0) (owner : Owner) where
  abbrev LieFrom : List (Artifact S D P G C) → Type 0
  LieFrom all = (before behind : List (Artifact S D P G C)) (v : Notarize S D P G C) → all ≡ before ++ artifact.Notarize v ∷ behind → floor (entries before) ≤ v.proposal.parent

  from-there : (ever kept before : List (Artifact S D P G C)) (x : Artifact S D P G C) (v : Notarize S D P G C) → EverFits attests certifies owner ever kept x → x ≡ artifact.Notarize v → ever ≡ before
      → floor (entries before) ≤ v.proposal.parent
  from-there ever kept before x v fits is same =
      let so : EverFits attests certifies owner ever kept (artifact.Notarize v) = subst (λ (y : Artifact S D P G C). EverFits attests certifies owner ever kept y) is fits in
      subst (λ (l : List (Artifact S D P G C)). floor (entries l) ≤ v.proposal.parent) same so.follows.from_floor

  -- of all that was ever recorded, each vote to notarize names a parent at or above where it began
  pub lie-from : {ever kept : List (Artifact S D P G C)} → IsRecorded attests certifies owner ever kept → LieFrom ever
  lie-from nothing before behind v is = absurd (none-there before (artifact.Notarize v) behind is)
  lie-from (further {ever} {kept} x r fits) before behind v is = ⊎_elim
      (λ last. from-there ever kept before x v fits last.0 last.1)
      (λ more. lie-from r before more.0 v more.1)
      (snoc-split ever x before (artifact.Notarize v) behind is)
  lie-from (rewrote c r there last) before behind v is = lie-from r before behind v is

module _ {S D P G C : Type 0} (g : Ghosts S D P G C) (f : Formats S D P G C) (basis : LifeLaws g) (s : Setup S D C) where
  -- what lives leave is lawful
  pub all-lives-lawful : (lives : List (Life S D P G C)) (all left : List (Artifact S D P G C)) → Lives g f s [] [] lives all left → Lawful g f s left
  all-lives-lawful lives all left led = (all-lists g f basis s lives all left led).lawful

  stands-for-itself : (r : List (Entry D)) → StandsForAll s.voter.length r r
  stands-for-itself r = record { within = λ e here. here; above = λ e here high. here; floors = omega arith; final = refl; current = refl; nothing = λ none. none }

  -- all that was ever recorded is, and what is left stands for it
  pub left-of-all : (lives : List (Life S D P G C)) (all left : List (Artifact S D P G C)) → Lives g f s [] [] lives all left → IsLeftOf g f s all left
  left-of-all lives all left led =
      let are = all-lists g f basis s lives all left led in
      record {
        lawful = (left, are.recorded_so);
        stands = ⊎_elim
            (λ one. subst (λ (l : List (Artifact S D P G C)). StandsForAll s.voter.length (entries l) (entries left)) (sym (one.1 ∙ one.2)) (stands-for-itself (entries left)))
            (λ more. (basis.lists.kept s.voter.scheme (owner_of s) all left more.0 more.1.kept_is).1)
            are.hang;
      }

  pub parents-lie : (lives : List (Life S D P G C)) (all left before behind : List (Artifact S D P G C)) (v : Notarize S D P G C) → Lives g f s [] [] lives all left
      → all ≡ before ++ artifact.Notarize v ∷ behind → floor (entries before) ≤ v.proposal.parent
  parents-lie lives all left before behind v led is =
      lie-from (g.attests s.voter.scheme) (g.certifies s.voter.scheme) (owner_of s) (all-lists g f basis s lives all left led).recorded_so before behind v is

  pub votes-so : (lives : List (Life S D P G C)) (all left : List (Artifact S D P G C)) → Lives g f s [] [] lives all left → VotesLawfully (g.attests s.voter.scheme) (g.certifies s.voter.scheme) (owner_of s) all
  votes-so lives all left led = basis.lists.ever s.voter.scheme (owner_of s) all (left-of-all lives all left led).lawful

  -- a lawful record is refused at no position
  pub none-refused : (left : List (Artifact S D P G C)) (position : ℕ) → Lawful g f s left → IsRefusedAt (g.attests s.voter.scheme) (g.certifies s.voter.scheme) (owner_of s) left position → ⊥
  none-refused left position lawful at = at.refused (lawful at.before at.after at.x at.is)

-- a world of lives is a world of lawful records
pub world-of-lives : {S D P G C : Type 0} (g : Ghosts S D P G C) (f : Formats S D P G C) (basis : LifeLaws g)
    (scheme : S) (m : Members S D P G C) (world : World S D P G C) → LiveByNodes g f scheme m world → AtMostFLie world → RecordedAreHonest g f scheme m world
    → IsWorld (g.attests scheme) (λ i. g.size (m.setup i).voter.scheme) (λ i. g.attests (m.setup i).voter.scheme) (λ i. g.certifies (m.setup i).voter.scheme) g.lists world
world-of-lives g f basis scheme m world w most honest = record {
  some = most.some;
  few = most.few;
  alike = w.alike;
  lawful = λ i correct.
      let lived = w.lived i correct in
      subst (λ (o : Owner). VotesLawfully (g.attests (m.setup i).voter.scheme) (g.certifies (m.setup i).voter.scheme) o (world.recorded i)) (w.owner i correct)
      (votes-so g f basis (m.setup i) (m.lives i) (world.recorded i) lived.0 lived.1);
  honest = honest;
}

-- an honest certificate that certifies is sound
honest-sound : {S D P G C : Type 0} (g : Ghosts S D P G C) (f : Formats S D P G C) (scheme : S) (m : Members S D P G C) (world : World S D P G C)
    → ((own : S) (x : Statement D) (c : C) → g.certifies own x c → IsQuorum (g.size own) (λ i a. g.attests own i x a) (g.lists c))
    → LiveByNodes g f scheme m world → (i : ℕ) → IsCorrect world i → (c : Certificate S D P G C) → IsHonest (g.attests scheme) g.lists world c
    → g.certifies (m.setup i).voter.scheme (certificate_statement c) (certified_by c) → IsSound (g.attests scheme) g.lists world c
honest-sound g f scheme m world backed w i correct c honest certifies =
    let alike = w.alike i correct in
    let own = backed (m.setup i).voter.scheme (certificate_statement c) (certified_by c) certifies in
    let q = subst (λ (n : ℕ). IsQuorum n (λ j a. g.attests (m.setup i).voter.scheme j (certificate_statement c) a) (g.lists (certified_by c))) alike.size_is own in
    record {
      backed = record { distinct = q.distinct; members = q.members; enough = q.enough; attesting = λ k d l. alike.attests_too _ _ _ (q.attesting k d l) };
      honest = honest;
    }

-- so is one that came in, and a floor that was brought
pub handed-sound : {S D P G C : Type 0} (g : Ghosts S D P G C) (f : Formats S D P G C) (scheme : S) (m : Members S D P G C) (world : World S D P G C)
    → ((own : S) (x : Statement D) (c : C) → g.certifies own x c → IsQuorum (g.size own) (λ i a. g.attests own i x a) (g.lists c))
    → LiveByNodes g f scheme m world → (i sender : ℕ) → IsCorrect world i → (c : Certificate S D P G C) → CameIn g f scheme m world i sender (of_certificate c)
    → g.certifies (m.setup i).voter.scheme (certificate_statement c) (certified_by c) → IsSound (g.attests scheme) g.lists world c
handed-sound g f scheme m world backed w i sender correct c came certifies = honest-sound g f scheme m world backed w i correct c (w.honest i sender correct (of_certificate c) came) certifies

pub brought-sound : {S D P G C : Type 0} (g : Ghosts S D P G C) (f : Formats S D P G C) (scheme : S) (m : Members S D P G C) (world : World S D P G C)
    → ((own : S) (x : Statement D) (c : C) → g.certifies own x c → IsQuorum (g.size own) (λ i a. g.attests own i x a) (g.lists c))
    → LiveByNodes g f scheme m world → (i : ℕ) → IsCorrect world i → (c : Certificate S D P G C) → WasBrought g f scheme m world i c
    → g.certifies (m.setup i).voter.scheme (certificate_statement c) (certified_by c) → IsSound (g.attests scheme) g.lists world c
brought-sound g f scheme m world backed w i correct c brought certifies = honest-sound g f scheme m world backed w i correct c (w.floors i correct c brought) certifies
