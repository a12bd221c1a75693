-- What an opening brings, behind what it found.
use Rattle.std.proofs.Common.{◌≡◌, ◌≤◌, ◌<◌, ◌+◌, ◌*◌, ◌^◌, ◌⊎◌, ◌++◌, ◌∙◌, inl, inr, ⊎_elim, ℕ, Bool, true, false, List, [], ◌∷◌, Some, refl, sym, ap, subst, map, arith, if◌then◌else◌}
use Rattle.std.specs.Prelude.{Contains, nat_lt}
use Rattle.std.proofs.lemmas.Bool.{cases_eq, cases_lt, lt-ltb, ltb-true}
use Rattle.std.proofs.lemmas.List.{append-nil, map-append}
use Rattle.types_quorum.specs.Counting.{Contains-cases, Contains-nil}
use Rattle.types_core.specs.Positions.{next_term_start}
use Rattle.types_core.specs.Subject.{Statement, notarize, nullify, finalize}
use Rattle.messages_certificates.specs.declared.artifact.Artifact.{Artifact}
use Rattle.messages_certificates.specs.declared.artifact.Artifact.TheVariants as artifact
use Rattle.messages_certificates.specs.ProposalCertificate.{Finalization}
use Rattle.voter_rules.specs.declared.floor.FloorFault.{FloorFault}
use Rattle.voter_rules.specs.declared.floor.FloorFault.TheVariants as fault
use Rattle.voter_rules.specs.Floor.{AppliesToFinal}
use Rattle.simplex_record.specs.declared.owner.Owner.{Owner}
use Rattle.simplex_record.specs.Lawful.{Fits, IsLawful}
use Rattle.simplex_record.specs.Record.{HasTaken, entries, finalizes, last_finalized, taken}
use Rattle.simplex_record.specs.Rules.{AreAlike}
use Rattle.journal_single.specs.declared.disk.Disk as disk
use Rattle.journal_books.specs.declared.books.Books.{Books}
use Rattle.journal_books.specs.declared.disks.Disks.{Disks}
use Rattle.journal_books.specs.Books.{IsWithOrWithout, LeaveBook, LeaveSince, MayBeRead}
use Rattle.journal_books.specs.BooksLaws.{book_weaker, since_then, since_weaker}
use Rattle.simplex_member.specs.Member.{AppendsFloor}
use Rattle.node_record.specs.Founding.{IsAppended, IsReadBehind}
use Rattle.node_record.proofs.Beginning.{at-most}

-- the first of one is that one
only : {X : Type 0} (x y : X) → Contains (x ∷ []) y → x ≡ y
only x y there = ⊎_elim (λ is. is) (λ later. absurd (Contains-nil y later)) (Contains-cases x [] y there)

module _ {S D P G C : Type 0} (attests : ℕ → Statement D → G → Type 0) (certifies : Statement D → C → Type 0) (owner : Owner) (c : Finalization S D P G C) where
  -- a finalization without a fault fits behind a record in which all that is final lies below it
  pub fits-behind : ((f : FloorFault) → ¬ AppliesToFinal certifies owner.term_length owner.epoch c f) → certifies (finalize c.proposal) c.certificate
      → (xs : List (Artifact S D P G C)) → last_finalized (entries xs) < c.proposal.round.view → Fits attests certifies owner xs (artifact.Finalization c)
  fits-behind sound certified xs above = record {
    verifies = record {
      epoch = ⊎_elim (λ same. same) (λ apart. absurd (sound fault.WrongEpoch apart)) (cases_eq c.proposal.round.epoch owner.epoch);
      verifies = certified;
    };
    follows = record {
      from_one = omega (arith, above);
      room = ⊎_elim (λ room. room) (λ none. absurd (sound fault.NoRoom (λ room. absurd (omega (arith, none, room)))))
          (cases_lt (next_term_start owner.term_length c.proposal.round.view + 2 * owner.term_length + 1) (2 ^ 64));
      parent_below = ⊎_elim (λ below. below) (λ not_below. absurd (sound fault.ParentNotBelow not_below)) (cases_lt c.proposal.parent c.proposal.round.view);
      first = none_like;
    };
  }
    where
      none_like : (t : Statement D) → AreAlike (finalize c.proposal) t → HasTaken (entries xs) t → ⊥
      none_like (notarize q) alike there = alike
      none_like (nullify r) alike there = alike
      none_like (finalize q) alike there = let low = at-most finalizes (entries xs) (taken (finalize q)) there in absurd (omega (arith, above, alike, low))

  -- where it lies above, it is appended
  pub appends-above : (xs : List (Artifact S D P G C)) → last_finalized (entries xs) < c.proposal.round.view → AppendsFloor (Some c) xs (artifact.Finalization c ∷ [])
  appends-above xs above =
      sym (ap (λ (b : Bool). if b then artifact.Finalization c ∷ [] else []) (lt-ltb (last_finalized (entries xs)) c.proposal.round.view above))

  -- where it doesn't, nothing is
  pub appends-none : (xs : List (Artifact S D P G C)) → c.proposal.round.view ≤ last_finalized (entries xs) → AppendsFloor (Some c) xs []
  appends-none xs low = go (nat_lt (last_finalized (entries xs)) c.proposal.round.view) refl
    where
      go : (b : Bool) → nat_lt (last_finalized (entries xs)) c.proposal.round.view ≡ b → [] ≡ (if b then artifact.Finalization c ∷ [] else [])
      go true is = let above = ltb-true (last_finalized (entries xs)) c.proposal.round.view is in absurd (omega (arith, low, above))
      go false is = refl

  module _ (Recordable : Artifact S D P G C → Type 0) where
    -- nothing is behind it
    pub appended-none : (xs : List (Artifact S D P G C)) → IsLawful attests certifies owner xs → c.proposal.round.view ≤ last_finalized (entries xs)
        → IsAppended Recordable attests certifies owner (Some c) xs []
    appended-none xs lawful low = record {
      appends = appends-none xs low;
      recordable = λ x there. absurd (Contains-nil x there);
      lawful = subst (λ (l : List (Artifact S D P G C)). IsLawful attests certifies owner l) (sym (append-nil xs)) lawful;
    }

    -- it is
    pub appended-one : (xs : List (Artifact S D P G C)) → IsLawful attests certifies owner (xs ++ artifact.Finalization c ∷ []) → last_finalized (entries xs) < c.proposal.round.view → Recordable (artifact.Finalization c)
        → IsAppended Recordable attests certifies owner (Some c) xs (artifact.Finalization c ∷ [])
    appended-one xs lawful above can = record {
      appends = appends-above xs above;
      recordable = λ x there. subst Recordable (only (artifact.Finalization c) x there) can;
      lawful = lawful;
    }

    module _ {K : Type 0} (k : disk.Ghosts K) (spelled : Artifact S D P G C → List ℕ) (xs : List (Artifact S D P G C)) (before : Disks K) where
      -- what may be read since before the opening
      abbrev pub May : List (List ℕ) → Type 0
      May read = MayBeRead k before read ⊎ IsReadBehind Recordable attests certifies owner (Some c) spelled xs read

      pub since-behind : (old new : Books (Artifact S D P G C) K) → IsLawful attests certifies owner (xs ++ artifact.Finalization c ∷ []) → last_finalized (entries xs) < c.proposal.round.view
          → MayBeRead k before (map spelled xs) → LeaveSince k before old (MayBeRead k before)
          → LeaveBook k old new (λ read. (read ≡ map spelled xs) ⊎ (Recordable (artifact.Finalization c) × (read ≡ map spelled (xs ++ artifact.Finalization c ∷ []))))
          → LeaveSince k before new May
      since-behind old new lawful above may one other =
          since_then k May before old new
          (since_weaker k (MayBeRead k before) May (λ read is. inl is) before old one)
          (book_weaker k (λ read. (read ≡ map spelled xs) ⊎ (Recordable (artifact.Finalization c) × (read ≡ map spelled (xs ++ artifact.Finalization c ∷ [])))) May
          (λ read. ⊎_elim (λ is. inl (subst (MayBeRead k before) (sym is) may)) (λ is. inr (artifact.Finalization c ∷ [], appended-one xs lawful above is.0, is.1))) old new other)

-- what a crash leaves while a copy of it is recorded
pub copy-behind : {S D P G C K : Type 0} (k : disk.Ghosts K) (spelled : Artifact S D P G C → List ℕ) (Recordable : Artifact S D P G C → Type 0) (xs : List (Artifact S D P G C)) (c copy : Finalization S D P G C) (old new : Books (Artifact S D P G C) K)
    → copy ≡ c → Recordable (artifact.Finalization copy) → LeaveBook k old new (IsWithOrWithout (map spelled xs) (spelled (artifact.Finalization copy)))
    → LeaveBook k old new (λ read. (read ≡ map spelled xs) ⊎ (Recordable (artifact.Finalization c) × (read ≡ map spelled (xs ++ artifact.Finalization c ∷ []))))
copy-behind {S} {D} {P} {G} {C} k spelled Recordable xs c copy old new same can leaves =
    subst (λ (d : Finalization S D P G C). LeaveBook k old new (λ read. (read ≡ map spelled xs) ⊎ (Recordable (artifact.Finalization d) × (read ≡ map spelled (xs ++ artifact.Finalization d ∷ []))))) same
    (book_weaker k (IsWithOrWithout (map spelled xs) (spelled (artifact.Finalization copy))) _
    (λ read. ⊎_elim (λ is. inl is) (λ is. inr (can, is ∙ sym (map-append spelled xs (artifact.Finalization copy ∷ []))))) old new leaves)
