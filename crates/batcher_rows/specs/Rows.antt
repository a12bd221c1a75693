-- The votes of a round, as they are held: in a row for each signer.
use Rattle.std.specs.Prelude.{◌≡◌, ◌<◌, ◌≤◌, ◌+◌, ℕ, Bool, true, false, not, ◌&&◌, List, [], ◌∷◌, ◌++◌, length, filter, find, Option, None, Some, if◌then◌else◌}
use Rattle.std.specs.List.{slice_get, filter_map}
use Rattle.std.specs.List.Sorted.{IsPermutation}
use Rattle.std.specs.Option.{option_map, option_and_then}
use Rattle.simplex_messages.specs.declared.vote.Vote.{Vote}
use Rattle.simplex_messages.specs.VoteParts.{vote_signer}
use Rattle.batcher_assembly.specs.Judging.{is_among}
use Rattle.types_terms.specs.declared.kind.Kind.{Kind}
use Rattle.types_terms.specs.declared.kind.Kind.TheVariants.{Notarization, Nullification, Finalization}
use Rattle.batcher_rows.specs.declared.rows.Mark.{Mark}
use Rattle.batcher_rows.specs.declared.rows.Mark.TheVariants.{Aside, Waiting, Verified}
use Rattle.batcher_rows.specs.declared.rows.Held.{Held}
use Rattle.batcher_rows.specs.declared.rows.Row.{Row}
use Rattle.batcher_rows.specs.declared.rows.Tally.{Tally}
use Rattle.batcher_rows.specs.declared.rows.Rows.{Rows}
use Rattle.batcher_rows.specs.Votes.{is_in_way, is_kind, is_of, vote_kind}

-- the mark of a vote that is known to attest, or of one that waits
abbrev pub is_marked : Bool → Mark → Bool
is_marked true Verified = true
is_marked false Waiting = true
is_marked sure mark = false

-- a vote doesn't count
abbrev pub is_aside : Mark → Bool
is_aside Aside = true
is_aside mark = false

-- the mark of a vote that came
abbrev pub mark_of : Bool → Bool → Mark
mark_of counts true = if counts then Verified else Aside
mark_of counts false = if counts then Waiting else Aside

-- the two are one
abbrev pub is_same : Bool → Bool → Bool
is_same true b = b
is_same false b = not b

-- the first, if there is one
abbrev pub head_of : {X : Type 0} → List X → Option X
head_of [] = None
head_of (x ∷ xs) = Some x

-- a number after one more came, of fewer than so many, or none
pub record IsUp (more : Bool) (most old new : ℕ) : Type 0 where
  pub up : more ≡ true → old < most → new ≡ old + 1
  pub stays : more ≡ false → new ≡ old

-- what counts of a kind, after one more came, of fewer than so many
pub record IsCounted (sure mine : Bool) (most : ℕ) (old new : Tally) : Type 0 where
  pub complete_stays : new.complete ≡ old.complete
  pub waiting_count : IsUp (not sure && mine) most old.waiting new.waiting
  pub verified_count : IsUp (sure && mine) most old.verified new.verified

module _ {S D P G C : Type 0} where
  -- the vote counts for this kind, as one that is known to attest or as one that waits
  abbrev pub stands : Bool → Kind → Held S D P G C → Bool
  stands sure kind x = is_marked sure x.mark && is_kind kind (vote_kind x.vote)

  -- the notarize of a row, or its nullify or finalize
  abbrev pub cell : Bool → Row S D P G C → Option (Held S D P G C)
  cell true row = row.notarize
  cell false row = row.other

  -- the same in the row of this place
  abbrev pub vote_at : Bool → List (Row S D P G C) → ℕ → Option (Vote S D P G C)
  vote_at notarize rows i = option_map (λ x. x.vote) (option_and_then (cell notarize) (slice_get rows i))

  -- the vote in a cell that counts so for this kind
  abbrev pub counted_in : Bool → Kind → Option (Held S D P G C) → Option (Vote S D P G C)
  counted_in sure kind None = None
  counted_in sure kind (Some x) = if stands sure kind x then Some x.vote else None

  -- the vote of a row that counts so for this kind
  abbrev pub vote_in : Bool → Kind → Row S D P G C → Option (Vote S D P G C)
  vote_in sure kind row = counted_in sure kind (cell (is_kind Notarization kind) row)

  -- the votes of a kind that are known to attest, or those that wait, by signer
  abbrev pub votes_in : Bool → Kind → List (Row S D P G C) → List (Vote S D P G C)
  votes_in sure kind rows = filter_map (vote_in sure kind) rows

  -- the same of all rows
  abbrev pub votes_of : Bool → Kind → Rows S D P G C → List (Vote S D P G C)
  votes_of sure kind rows = votes_in sure kind rows.rows.items

  -- this member's newest notarize, or its newest nullify or finalize
  abbrev pub newest_of : Bool → Rows S D P G C → ℕ → Option (Vote S D P G C)
  newest_of notarize rows i = vote_at notarize rows.rows.items i

  -- how many members the committee has
  abbrev pub members_of : Rows S D P G C → ℕ
  members_of rows = rows.members

  -- how many votes of a kind count
  abbrev pub tally_at : Kind → Rows S D P G C → Tally
  tally_at Notarization rows = rows.notarizes
  tally_at Nullification rows = rows.nullifies
  tally_at Finalization rows = rows.finalizes

  -- a row with this notarize, or with this other vote
  abbrev pub with_cell : Bool → Held S D P G C → Row S D P G C → Row S D P G C
  with_cell true x row = record { notarize = Some x; other = row.other }
  with_cell false x row = record { notarize = row.notarize; other = Some x }

  -- a vote that counts on only if it passes
  abbrev pub kept : (Vote S D P G C → Bool) → Held S D P G C → Held S D P G C
  kept passes x = record { vote = x.vote; mark = if passes x.vote then x.mark else Aside }

  -- a vote of which it is known now whether it attests, if it is of this kind and waited
  abbrev pub settled : Kind → List ℕ → Held S D P G C → Held S D P G C
  settled kind failing x = if stands false kind x then record { vote = x.vote; mark = if is_among failing (vote_signer x.vote) then Aside else Verified } else x

  -- a row each vote of which was changed so
  abbrev pub each_cell : (Held S D P G C → Held S D P G C) → Row S D P G C → Row S D P G C
  each_cell f row = record { notarize = option_map f row.notarize; other = option_map f row.other }

  -- the kind is complete or not, these votes of it wait, and these are known to attest
  pub record KindIs (kind : Kind) (rows : Rows S D P G C) (complete : Bool) (wait sure : List (Vote S D P G C)) : Type 0 where
    pub complete_is : (tally_at kind rows).complete ≡ complete
    pub waiting_are : IsPermutation wait (votes_of false kind rows)
    pub verified_are : IsPermutation sure (votes_of true kind rows)
    pub waiting_count : (tally_at kind rows).waiting ≡ length wait
    pub verified_count : (tally_at kind rows).verified ≡ length sure

  -- each member's row has its newest accepted votes, and no other member's; behind them stand strangers' votes alone
  pub record AreNewest (rows : Rows S D P G C) (members : ℕ) (votes : List (Vote S D P G C)) : Type 0 where
    pub members_are : members_of rows ≡ members
    pub newest : (notarize : Bool) (i : ℕ) → i < members → newest_of notarize rows i ≡ find (is_of notarize i) votes
    pub strangers : (notarize : Bool) (i : ℕ) (u : Vote S D P G C) → members ≤ i → newest_of notarize rows i ≡ Some u → members ≤ vote_signer u

  -- the vote of a cell counts, and stands in the way of this one
  abbrev pub blocks_in : Vote S D P G C → Option (Held S D P G C) → Bool
  blocks_in v None = false
  blocks_in v (Some x) = not (is_aside x.mark) && is_in_way v x.vote

  -- a vote of this row does
  abbrev pub blocks : Vote S D P G C → Row S D P G C → Bool
  blocks v row = blocks_in v (cell (is_kind Notarization (vote_kind v)) row)

  -- the row of this place, if there is one, does
  abbrev pub blocks_at : Vote S D P G C → Option (Row S D P G C) → Bool
  blocks_at v None = false
  blocks_at v (Some row) = blocks v row

  -- no row behind those of the members does
  abbrev pub StrangersFree : Vote S D P G C → Rows S D P G C → Type 0
  StrangersFree v rows = (i : ℕ) → members_of rows ≤ i → blocks_at v (slice_get rows.rows.items i) ≡ false

  -- no vote that counts stands in the way of this one
  abbrev pub NoneInWay : Rows S D P G C → Vote S D P G C → Type 0
  NoneInWay rows v = (sure : Bool) (kind : Kind) → find (is_in_way v) (votes_of sure kind rows) ≡ None

  -- the same votes stand in the same places
  pub record PlacesStay (old new : Rows S D P G C) : Type 0 where
    pub members_stay : members_of new ≡ members_of old
    pub votes_stay : (notarize : Bool) (i : ℕ) → newest_of notarize new i ≡ newest_of notarize old i

  -- how many there are of members, and how many votes count, stays
  pub record OthersStay (old new : Rows S D P G C) : Type 0 where
    pub members_stay : members_of new ≡ members_of old
    pub tallies_stay : (kind : Kind) → tally_at kind new ≡ tally_at kind old

  -- nothing changed but that rows without votes came
  pub record RowsStay (old new : Rows S D P G C) : Type 0 where
    pub places : PlacesStay old new
    pub tallies : (kind : Kind) → tally_at kind new ≡ tally_at kind old
    pub votes : (sure : Bool) (kind : Kind) → votes_of sure kind new ≡ votes_of sure kind old

  -- votes of a kind after a vote came that counts among them, or doesn't
  abbrev pub pushed : Kind → Vote S D P G C → Bool → List (Vote S D P G C) → List (Vote S D P G C)
  pushed kind v counts votes = if counts && is_kind kind (vote_kind v) then votes ++ v ∷ [] else votes

  -- the votes of a kind that wait after those of a kind were judged
  abbrev pub settled_waiting : Kind → Kind → List (Vote S D P G C) → List (Vote S D P G C)
  settled_waiting kind judged wait = if is_kind kind judged then [] else wait

  -- and those that are known to attest
  abbrev pub settled_verified : Kind → Kind → List ℕ → List (Vote S D P G C) → List (Vote S D P G C) → List (Vote S D P G C)
  settled_verified kind judged failing wait sure = if is_kind kind judged then sure ++ filter (λ v. not (is_among failing (vote_signer v))) wait else sure
