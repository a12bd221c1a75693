-- Rows of votes, one a signer.
use Rattle.std.proofs.Common.{◌≡◌, ◌≤◌, ◌<◌, ◌+◌, ◌==◌, ◌&&◌, ◌||◌, ◌⊎◌, inl, inr, ℕ, zero, suc, Bool, true, false, not, cond, List, [], ◌∷◌, ◌++◌, map, length, get_or, set, refl, ap, sym, ◌∙◌, arith, append-nil, length-append, length-set}
use Rattle.std.specs.declared.vec.Vec.{Vec}
use Rattle.std.specs.declared.alloc.Global.{Global}
use Rattle.std.specs.Prelude.{Result, Ok, Err, OnErr, Option, None, Some, filter, find, if◌then◌else◌}
use Rattle.std.specs.List.{filter_map, cons_option, Contains}
use Rattle.std.specs.List.Sorted.{IsPermutation}
use Rattle.std.specs.Option.{option_map}
use Rattle.std.proofs.lemmas.Bool.{cases_eq, cases_lt, and_parts}
use Rattle.std.proofs.lemmas.List.Elements.{filter_map-append, Contains-append_right}
use Rattle.std.proofs.lemmas.List.Sorted.{IsPermutation-refl, IsPermutation-sym, IsPermutation-trans, IsPermutation-append, IsPermutation-append_left, IsPermutation-to_front, Contains-permutation, length_permutation}
use Rattle.simplex_messages.specs.declared.vote.Vote.{Vote}
use Rattle.simplex_messages.specs.declared.vote.Vote.TheVariants as vote
use Rattle.simplex_messages.specs.VoteParts.{vote_signer}
use Rattle.batcher_assembly.specs.Judging.{is_among}
use Rattle.types_terms.specs.declared.kind.Kind.{Kind}
use Rattle.types_terms.specs.declared.kind.Kind.TheVariants.{Notarization, Nullification, Finalization}
use Rattle.batcher_rows.specs.declared.rows.Mark.{Mark}
use Rattle.batcher_rows.specs.declared.rows.Mark.TheVariants.{Aside, Waiting, Verified}
use Rattle.batcher_rows.specs.declared.rows.Held.{Held}
use Rattle.batcher_rows.specs.declared.rows.Row.{Row}
use Rattle.batcher_rows.specs.declared.rows.Tally.{Tally}
use Rattle.batcher_rows.specs.declared.rows.Rows.{Rows}
use Rattle.batcher_rows.specs.Votes.{is_kind, is_of, is_in_way, vote_kind}
use Rattle.batcher_rows.specs.Kinds.{kind-same, one-kind}
use Rattle.batcher_rows.specs.Permutations.{IsPermutation-same, IsPermutation-filter}
use Rattle.batcher_rows.specs.Rows.{is_marked, is_aside, is_same, mark_of, stands, cell, vote_at, counted_in, vote_in, votes_in, tally_at, with_cell, kept, settled, each_cell, IsUp, IsCounted, KindIs, AreNewest, PlacesStay, OthersStay, RowsStay, pushed, settled_waiting, settled_verified}
use Rattle.batcher_rows.proofs.Shuffling.{if_passes, or_else, NotBoth, filter_map-map, filter_map-same, filter_map-none, filter_map-passes, filter_map-either, filter_map-set, filter_map-set_more, filter_map-length, filter_map-fewer}

pub itself : (i : ℕ) → (i == i) ≡ true
itself i = grind arith

apart-first : (i : ℕ) → (0 == suc i) ≡ false
apart-first i = grind arith

apart-last : (i : ℕ) → (suc i == 0) ≡ false
apart-last i = grind arith

same-suc : (k i : ℕ) → (suc k == suc i) ≡ (k == i)
same-suc k i = elim (cases_eq k i) [
  | inl e ↦ rw (e, itself i) (itself (suc i))
  | inr n ↦
      let a : (k == i) ≡ false = grind (arith, n) in
      let b : (suc k == suc i) ≡ false = grind (arith, n) in
      rw a b
]

-- what holds, holds of a failure
pub on-err : {X E : Type 0} (r : Result X E) (P : Type 0) → P → OnErr r P
on-err (Ok x) P p = tt
on-err (Err e) P p = p

-- none is none, whatever is asked
none-if : {X : Type 0} (b : Bool) (o : Option X) → o ≡ None → o ≡ (if b then None else o)
none-if true o e = e
none-if false o e = refl

module _ {S D P G C : Type 0} where
  -- other rows beside the same counts
  abbrev pub with_rows : Rows S D P G C → Vec (Row S D P G C) Global → Rows S D P G C
  with_rows old rows = record { members = old.members; rows = rows; notarizes = old.notarizes; nullifies = old.nullifies; finalizes = old.finalizes }

  -- the counts are one
  pub tallies-as : (a b : Rows S D P G C) → a.notarizes ≡ b.notarizes → a.nullifies ≡ b.nullifies → a.finalizes ≡ b.finalizes → (kind : Kind) → tally_at kind a ≡ tally_at kind b
  tallies-as a b n u f Notarization = n
  tallies-as a b n u f Nullification = u
  tallies-as a b n u f Finalization = f

-- ---- rows that come, and rows that stay

module _ {S D P G C : Type 0} where
  vote-more : (side : Bool) (rows : List (Row S D P G C)) (row : Row S D P G C) (i : ℕ) → cell side row ≡ None → vote_at side (rows ++ row ∷ []) i ≡ vote_at side rows i
  vote-more side [] row zero none = rw none refl
  vote-more side [] row (suc i) none = refl
  vote-more side (x ∷ rows) row zero none = refl
  vote-more side (x ∷ rows) row (suc i) none = vote-more side rows row i none

  no-cell : (side : Bool) (row : Row S D P G C) → row.notarize ≡ None → row.other ≡ None → cell side row ≡ None
  no-cell true row n o = n
  no-cell false row n o = o

  no-votes : (sure : Bool) (kind : Kind) (rows : List (Row S D P G C)) (row : Row S D P G C) → row.notarize ≡ None → row.other ≡ None → votes_in sure kind (rows ++ row ∷ []) ≡ votes_in sure kind rows
  no-votes sure kind rows row n o =
      let none : vote_in sure kind row ≡ None = rw (no-cell (is_kind Notarization kind) row n o) refl in
      filter_map-append (vote_in sure kind) rows (row ∷ []) ∙ rw none (append-nil (votes_in sure kind rows))

  -- one row more that has no vote
  pub stays-more : (old new : Rows S D P G C) (row : Row S D P G C) → new.members ≡ old.members → ((kind : Kind) → tally_at kind new ≡ tally_at kind old) → new.rows.items ≡ old.rows.items ++ row ∷ [] → row.notarize ≡ None → row.other ≡ None → RowsStay old new
  stays-more old new row m t is n o = record {
    places = record { members_stay = m; votes_stay = λ side i. rw is (vote-more side old.rows.items row i (no-cell side row n o)) };
    tallies = t;
    votes = λ sure kind. rw is (no-votes sure kind old.rows.items row n o);
  }

  pub stays-same : (old new : Rows S D P G C) → new.members ≡ old.members → ((kind : Kind) → tally_at kind new ≡ tally_at kind old) → new.rows.items ≡ old.rows.items → RowsStay old new
  stays-same old new m t is = record {
    places = record { members_stay = m; votes_stay = λ side i. ap (λ rows. vote_at side rows i) is };
    tallies = t;
    votes = λ sure kind. ap (votes_in sure kind) is;
  }

  pub stays-again : (old mid new : Rows S D P G C) → RowsStay old mid → RowsStay mid new → RowsStay old new
  stays-again old mid new a b = record {
    places = record { members_stay = b.places.members_stay ∙ a.places.members_stay; votes_stay = λ side i. b.places.votes_stay side i ∙ a.places.votes_stay side i };
    tallies = λ kind. b.tallies kind ∙ a.tallies kind;
    votes = λ sure kind. b.votes sure kind ∙ a.votes sure kind;
  }

-- ---- a vote is written down

module _ {S D P G C : Type 0} where
  -- a vote stands on its own side of its own row
  its-place : (v : Vote S D P G C) (side : Bool) (i : ℕ) → (is_same (is_kind Notarization (vote_kind v)) side && (vote_signer v == i)) ≡ is_of side i v
  its-place (vote.Notarize w) true i = refl
  its-place (vote.Notarize w) false i = refl
  its-place (vote.Nullify w) true i = refl
  its-place (vote.Nullify w) false i = refl
  its-place (vote.Finalize w) true i = refl
  its-place (vote.Finalize w) false i = refl

  -- what stands in its way is of its place
  pub in-its-way : (v u : Vote S D P G C) → is_of (is_kind Notarization (vote_kind v)) (vote_signer v) u ≡ is_in_way v u
  in-its-way (vote.Notarize v) u = refl
  in-its-way (vote.Nullify v) u = refl
  in-its-way (vote.Finalize v) u = refl

  vote-with : (b side : Bool) (x : Held S D P G C) (row : Row S D P G C) → option_map (λ (y : Held S D P G C). y.vote) (cell side (with_cell b x row)) ≡ (if is_same b side && true then Some x.vote else option_map (λ (y : Held S D P G C). y.vote) (cell side row))
  vote-with true true x row = refl
  vote-with true false x row = refl
  vote-with false true x row = refl
  vote-with false false x row = refl

  vote-past : (b side : Bool) (v : Vote S D P G C) (o : Option (Vote S D P G C)) → o ≡ (if is_same b side && false then Some v else o)
  vote-past true true v o = refl
  vote-past true false v o = refl
  vote-past false true v o = refl
  vote-past false false v o = refl

  vote-set : (b side : Bool) (rows : List (Row S D P G C)) (k i : ℕ) (x : Held S D P G C) (d : Row S D P G C) (t : Bool) → k < length rows → (k == i) ≡ t → vote_at side (set rows k (with_cell b x (get_or rows k d))) i ≡ (if is_same b side && t then Some x.vote else vote_at side rows i)
  vote-set b side [] k i x d t l e = absurd (omega arith)
  vote-set b side (row ∷ rows) zero zero x d t l e = let one : t ≡ true = sym e ∙ itself 0 in rw one (vote-with b side x row)
  vote-set b side (row ∷ rows) zero (suc i) x d t l e = let one : t ≡ false = sym e ∙ apart-first i in rw one (vote-past b side x.vote (vote_at side rows i))
  vote-set b side (row ∷ rows) (suc k) zero x d t l e = let one : t ≡ false = sym e ∙ apart-last k in rw one (vote-past b side x.vote (vote_at side (row ∷ rows) zero))
  vote-set b side (row ∷ rows) (suc k) (suc i) x d t l e = vote-set b side rows k i x d t (omega arith) (sym (same-suc k i) ∙ e)

  -- what stands in rows to which one came stands there before, or in that one
  vote-last : (side : Bool) (rows : List (Row S D P G C)) (row : Row S D P G C) (i : ℕ) (u : Vote S D P G C) → vote_at side (rows ++ row ∷ []) i ≡ Some u
      → (vote_at side rows i ≡ Some u) ⊎ (option_map (λ (x : Held S D P G C). x.vote) (cell side row) ≡ Some u)
  vote-last side [] row zero u e = inr e
  vote-last side [] row (suc i) u e = absurd (cc e)
  vote-last side (x ∷ rows) row zero u e = inl e
  vote-last side (x ∷ rows) row (suc i) u e = vote-last side rows row i u e

  vote-append : (side : Bool) (rows more : List (Row S D P G C)) (i : ℕ) → i < length rows → vote_at side (rows ++ more) i ≡ vote_at side rows i
  vote-append side [] more i l = absurd (omega arith)
  vote-append side (row ∷ rows) more zero l = refl
  vote-append side (row ∷ rows) more (suc i) l = vote-append side rows more i (omega arith)

  vote-here : (side : Bool) (rows : List (Row S D P G C)) (i : ℕ) (d : Row S D P G C) → i < length rows → vote_at side rows i ≡ option_map (λ (x : Held S D P G C). x.vote) (cell side (get_or rows i d))
  vote-here side [] i d l = absurd (omega arith)
  vote-here side (row ∷ rows) zero d l = refl
  vote-here side (row ∷ rows) (suc i) d l = vote-here side rows i d (omega arith)

  row-there : (sure : Bool) (kind : Kind) (rows : List (Row S D P G C)) (i : ℕ) (d : Row S D P G C) (u : Vote S D P G C) → i < length rows → vote_in sure kind (get_or rows i d) ≡ Some u → Contains (votes_in sure kind rows) u
  row-there sure kind [] i d u l e = absurd (omega arith)
  row-there sure kind (row ∷ rows) zero d u l e = rw e (zero, omega arith, refl)
  row-there sure kind (row ∷ rows) (suc i) d u l e = go (vote_in sure kind row) (row-there sure kind rows i d u (omega arith) e)
    where
      go : (o : Option (Vote S D P G C)) → Contains (votes_in sure kind rows) u → Contains (cons_option o (votes_in sure kind rows)) u
      go None there = there
      go (Some v) there = Contains-append_right (v ∷ []) (votes_in sure kind rows) u there

  -- what counts of a cell is its vote
  counted-vote : (sure : Bool) (kind : Kind) (o : Option (Held S D P G C)) (u : Vote S D P G C) → counted_in sure kind o ≡ Some u → option_map (λ (x : Held S D P G C). x.vote) o ≡ Some u
  counted-vote sure kind None u e = absurd (cc e)
  counted-vote sure kind (Some x) u e = go (stands sure kind x) e
    where
      go : (b : Bool) → (if b then Some x.vote else None) ≡ Some u → Some x.vote ≡ Some u
      go true e = e
      go false e = absurd (cc e)

-- what isn't found isn't there
not-there : {X : Type 0} (p : X → Bool) (xs : List X) (x : X) → find p xs ≡ None → Contains xs x → p x ≡ false
not-there p [] x none (k, l, e) = absurd (omega arith)
not-there p (y ∷ ys) x none (k, l, e) = go (p y) refl none k l e (λ n i m f. not-there p ys x n (i, m, f))
  where
    go : (b : Bool) → p y ≡ b → cond b (Some y) (find p ys) ≡ None → (k : ℕ) → k < length (y ∷ ys) → get_or (y ∷ ys) k x ≡ x → (find p ys ≡ None → (i : ℕ) → i < length ys → get_or ys i x ≡ x → p x ≡ false) → p x ≡ false
    go true is none k l e later = absurd (cc none)
    go false is none zero l e later = rw (← e) is
    go false is none (suc k) l e later = later none k (omega arith) e

-- what is found passes
pub found-passes : {X : Type 0} (p : X → Bool) (xs : List X) (x : X) → find p xs ≡ Some x → p x ≡ true
found-passes p [] x e = absurd (cc e)
found-passes p (y ∷ ys) x e = go (p y) refl e (found-passes p ys x)
  where
    go : (b : Bool) → p y ≡ b → cond b (Some y) (find p ys) ≡ Some x → (find p ys ≡ Some x → p x ≡ true) → p x ≡ true
    go true is e later = let one : y ≡ x = cc e in rw (← one) is
    go false is e later = later e

mark-is : (sure counts verified : Bool) → is_marked sure (mark_of counts verified) ≡ counts && (if sure then verified else not verified)
mark-is true true true = refl
mark-is true true false = refl
mark-is true false true = refl
mark-is true false false = refl
mark-is false true true = refl
mark-is false true false = refl
mark-is false false true = refl
mark-is false false false = refl

-- a vote's side is that of its kind
pub side-same : (k v : Kind) → is_kind k v ≡ true → is_kind Notarization k ≡ is_kind Notarization v
side-same Notarization Notarization e = refl
side-same Nullification Nullification e = refl
side-same Finalization Finalization e = refl
side-same Notarization Nullification e = absurd (cc e)
side-same Notarization Finalization e = absurd (cc e)
side-same Nullification Notarization e = absurd (cc e)
side-same Nullification Finalization e = absurd (cc e)
side-same Finalization Notarization e = absurd (cc e)
side-same Finalization Nullification e = absurd (cc e)

module _ {S D P G C : Type 0} where
  counted-with : (sure : Bool) (kind : Kind) (b : Bool) (x : Held S D P G C) (row : Row S D P G C) → b ≡ is_kind Notarization kind → vote_in sure kind (with_cell b x row) ≡ (if stands sure kind x then Some x.vote else None)
  counted-with sure kind b x row e = go b (is_kind Notarization kind) e
    where
      go : (b c : Bool) → b ≡ c → counted_in sure kind (cell c (with_cell b x row)) ≡ (if stands sure kind x then Some x.vote else None)
      go true true e = refl
      go false false e = refl
      go true false e = absurd (cc e)
      go false true e = absurd (cc e)

  counted-beside : (sure : Bool) (kind : Kind) (b : Bool) (x : Held S D P G C) (row : Row S D P G C) → (b ≡ is_kind Notarization kind → ⊥) → vote_in sure kind (with_cell b x row) ≡ vote_in sure kind row
  counted-beside sure kind b x row e = go b (is_kind Notarization kind) e
    where
      go : (b c : Bool) → (b ≡ c → ⊥) → counted_in sure kind (cell c (with_cell b x row)) ≡ counted_in sure kind (cell c row)
      go true true e = absurd (e refl)
      go false false e = absurd (e refl)
      go true false e = refl
      go false true e = refl

  -- the kind's votes after one was written over that doesn't count
  pub written-over : (sure : Bool) (kind : Kind) (x : Held S D P G C) (rows : List (Row S D P G C)) (k : ℕ) (d : Row S D P G C) → k < length rows
      → (is_kind Notarization (vote_kind x.vote) ≡ is_kind Notarization kind → vote_in sure kind (get_or rows k d) ≡ None)
      → IsPermutation (if stands sure kind x then votes_in sure kind rows ++ x.vote ∷ [] else votes_in sure kind rows) (votes_in sure kind (set rows k (with_cell (is_kind Notarization (vote_kind x.vote)) x (get_or rows k d))))
  written-over sure kind x rows k d l free = side b (is_kind Notarization kind) refl refl
    where
      b : Bool
      b = is_kind Notarization (vote_kind x.vote)

      new : Row S D P G C
      new = with_cell b x (get_or rows k d)

      apart : (c : Bool) → stands sure kind x ≡ c → (b ≡ is_kind Notarization kind → ⊥) → IsPermutation (if c then votes_in sure kind rows ++ x.vote ∷ [] else votes_in sure kind rows) (votes_in sure kind (set rows k new))
      apart true e other = absurd (other (sym (side-same kind (vote_kind x.vote) (and_parts (is_marked sure x.mark) (is_kind kind (vote_kind x.vote)) e).1)))
      apart false e other = IsPermutation-same _ _ (sym (filter_map-set (vote_in sure kind) rows k new d (counted-beside sure kind b x (get_or rows k d) other)))

      here : (c : Bool) → stands sure kind x ≡ c → b ≡ is_kind Notarization kind → IsPermutation (if c then votes_in sure kind rows ++ x.vote ∷ [] else votes_in sure kind rows) (votes_in sure kind (set rows k new))
      here true e mine = IsPermutation-trans _ _ _ (IsPermutation-to_front (votes_in sure kind rows) x.vote) (filter_map-set_more (vote_in sure kind) rows k new d x.vote l (free mine) (counted-with sure kind b x (get_or rows k d) mine ∙ rw e refl))
      here false e mine = IsPermutation-same _ _ (sym (filter_map-set (vote_in sure kind) rows k new d (counted-with sure kind b x (get_or rows k d) mine ∙ rw e (sym (free mine)))))

      side : (m n : Bool) → m ≡ b → n ≡ is_kind Notarization kind → IsPermutation (if stands sure kind x then votes_in sure kind rows ++ x.vote ∷ [] else votes_in sure kind rows) (votes_in sure kind (set rows k new))
      side true true e f = here (stands sure kind x) refl (sym e ∙ f)
      side false false e f = here (stands sure kind x) refl (sym e ∙ f)
      side true false e f = apart (stands sure kind x) refl (λ g. absurd (cc (e, f, g)))
      side false true e f = apart (stands sure kind x) refl (λ g. absurd (cc (e, f, g)))

-- ---- a vote is put down

more-both : {X : Type 0} (b : Bool) (xs ys : List X) (x : X) → IsPermutation xs ys → IsPermutation (if b then xs ++ x ∷ [] else xs) (if b then ys ++ x ∷ [] else ys)
more-both true xs ys x p = IsPermutation-append_left (x ∷ []) xs ys p
more-both false xs ys x p = p

up-length : {X : Type 0} (b : Bool) (most old new : ℕ) (xs : List X) (x : X) → IsUp b most old new → old ≡ length xs → (b ≡ true → length xs < most) → new ≡ length (if b then xs ++ x ∷ [] else xs)
up-length true most old new xs x up is few =
    let one : new ≡ old + 1 = up.up refl (rw is (few refl)) in
    let long : length (xs ++ x ∷ []) ≡ length xs + 1 = length-append xs (x ∷ []) in
    omega (arith, one, long, is)
up-length false most old new xs x up is few = up.stays refl ∙ is

and-none : (b c : Bool) → c ≡ false → b && c ≡ false
and-none true c e = e
and-none false c e = refl

never-marked : (sure : Bool) (m : Mark) (mine : Bool) → is_aside m ≡ true → is_marked sure m && mine ≡ false
never-marked true Aside mine e = refl
never-marked false Aside mine e = refl
never-marked sure Waiting mine e = absurd (cc e)
never-marked sure Verified mine e = absurd (cc e)

-- a vote as it is held
abbrev pub as-held : {S D P G C : Type 0} → Vote S D P G C → Bool → Bool → Held S D P G C
as-held v counts own = record { vote = v; mark = mark_of counts own }

-- a row of a vote alone
abbrev pub lone : {S D P G C : Type 0} → Held S D P G C → Row S D P G C
lone x = with_cell (is_kind Notarization (vote_kind x.vote)) x (record { notarize = None; other = None })

-- the rows of which one has this vote of a member
abbrev pub with-vote : {S D P G C : Type 0} → Held S D P G C → List (Row S D P G C) → Row S D P G C → List (Row S D P G C)
with-vote x rows d = set rows (vote_signer x.vote) (with_cell (is_kind Notarization (vote_kind x.vote)) x (get_or rows (vote_signer x.vote) d))

-- the rows to which one came of this vote of a stranger, if it counts
abbrev pub with-stranger : {S D P G C : Type 0} → Held S D P G C → List (Row S D P G C) → List (Row S D P G C)
with-stranger x rows = if is_aside x.mark then rows else rows ++ lone x ∷ []

-- the vote was written down
pub record WasWritten {S D P G C : Type 0} (x : Held S D P G C) (mid new : Rows S D P G C) : Type 0 where
  pub others : OthersStay mid new
  pub reached : mid.members ≤ length mid.rows.items
  pub member : vote_signer x.vote < mid.members → mid.members ≤ length mid.rows.items → (d : Row S D P G C) → new.rows.items ≡ with-vote x mid.rows.items d
  pub stranger : mid.members ≤ vote_signer x.vote → new.rows.items ≡ with-stranger x mid.rows.items

pub was-written : {S D P G C : Type 0} (v : Vote S D P G C) (m : Mark) (mid new : Rows S D P G C) → OthersStay mid new → mid.members ≤ length mid.rows.items
    → (vote_signer v < mid.members → mid.members ≤ length mid.rows.items → (d : Row S D P G C) → new.rows.items ≡ with-vote (record { vote = v; mark = m }) mid.rows.items d)
    → (mid.members ≤ vote_signer v → new.rows.items ≡ with-stranger (record { vote = v; mark = m }) mid.rows.items)
    → WasWritten (record { vote = v; mark = m }) mid new
was-written v m mid new others reached member stranger = record { others = others; reached = reached; member = member; stranger = stranger }

module _ {S D P G C : Type 0} (members : ℕ) (votes : List (Vote S D P G C)) (v : Vote S D P G C) (counts own : Bool) (mid new : Rows S D P G C) (k : AreNewest mid members votes) where
  newest-member : (d : Row S D P G C) → OthersStay mid new → vote_signer v < members → members ≤ length mid.rows.items → new.rows.items ≡ with-vote (as-held v counts own) mid.rows.items d → AreNewest new members (v ∷ votes)
  newest-member d others member reached is =
      let l : vote_signer v < length mid.rows.items = omega (arith, member, reached) in
      let b = is_kind Notarization (vote_kind v) in record {
        members_are = others.members_stay ∙ k.members_are;
        newest = λ side i m. rw is (vote-set b side mid.rows.items (vote_signer v) i (as-held v counts own) d (vote_signer v == i) l refl ∙ rw (its-place v side i, k.newest side i m) refl);
        strangers = λ side i u m e.
            let other : (vote_signer v == i) ≡ false = grind (arith, member, m) in
            let same : vote_at side new.rows.items i ≡ vote_at side mid.rows.items i =
            rw is (vote-set b side mid.rows.items (vote_signer v) i (as-held v counts own) d false l other ∙ sym (vote-past b side v (vote_at side mid.rows.items i))) in
            k.strangers side i u m (sym same ∙ e);
      }

  -- no other row is a stranger's
  beyond : (side : Bool) (i : ℕ) → members ≤ vote_signer v → i < members → is_of side i v ≡ false
  beyond side i stranger m =
      let other : (vote_signer v == i) ≡ false = grind (arith, stranger, m) in
      sym (its-place v side i) ∙ and-none (is_same (is_kind Notarization (vote_kind v)) side) (vote_signer v == i) other

  newest-stranger : OthersStay mid new → members ≤ vote_signer v → members ≤ length mid.rows.items → new.rows.items ≡ with-stranger (as-held v counts own) mid.rows.items → AreNewest new members (v ∷ votes)
  newest-stranger others stranger reached is = record {
    members_are = others.members_stay ∙ k.members_are;
    newest = λ side i m. rw (is, beyond side i stranger m) (go (is_aside (mark_of counts own)) side i m ∙ k.newest side i m);
    strangers = λ side i u m e. far (is_aside (mark_of counts own)) side i u m (rw is at e);
  }
    where
      lone-vote : (side : Bool) {u : Vote S D P G C} → option_map (λ (x : Held S D P G C). x.vote) (cell side (lone (as-held v counts own))) ≡ Some u → u ≡ v
      lone-vote side e = which (is_kind Notarization (vote_kind v)) side e
        where
          which : (b side : Bool) {u : Vote S D P G C} → option_map (λ (x : Held S D P G C). x.vote) (cell side (with_cell b (as-held v counts own) (record { notarize = None; other = None }))) ≡ Some u → u ≡ v
          which true true e = cc e
          which false false e = cc e
          which true false e = absurd (cc e)
          which false true e = absurd (cc e)

      far : (b : Bool) (side : Bool) (i : ℕ) (u : Vote S D P G C) → members ≤ i → vote_at side (if b then mid.rows.items else mid.rows.items ++ lone (as-held v counts own) ∷ []) i ≡ Some u → members ≤ vote_signer u
      far true side i u m e = k.strangers side i u m e
      far false side i u m e = elim (vote-last side mid.rows.items (lone (as-held v counts own)) i u e) [
        | inl before ↦ k.strangers side i u m before
        | inr mine ↦ let one : u ≡ v = lone-vote side mine in rw one stranger
      ]

      go : (b : Bool) (side : Bool) (i : ℕ) → i < members → vote_at side (if b then mid.rows.items else mid.rows.items ++ lone (as-held v counts own) ∷ []) i ≡ vote_at side mid.rows.items i
      go true side i m = refl
      go false side i m = vote-append side mid.rows.items (lone (as-held v counts own) ∷ []) i (omega (arith, m, reached))

  -- each member's row has its newest votes, this one among them
  pub written-newest : (m : Mark) → m ≡ mark_of counts own → WasWritten (record { vote = v; mark = m }) mid new → AreNewest new members (v ∷ votes)
  written-newest m e w = elim (cases_lt (vote_signer v) mid.members) [
    | inl low ↦ newest-member (record { notarize = None; other = None }) w.others (omega (arith, low, k.members_are)) (omega (arith, w.reached, k.members_are)) (rw e at (w.member low w.reached (record { notarize = None; other = None })))
    | inr high ↦ newest-stranger w.others (omega (arith, high, k.members_are)) (omega (arith, w.reached, k.members_are)) (rw e at (w.stranger high))
  ]

pub put-newest : {S D P G C : Type 0} (members : ℕ) (votes : List (Vote S D P G C)) (wrote new : Rows S D P G C) → AreNewest wrote members votes → new.rows ≡ wrote.rows → new.members ≡ wrote.members → AreNewest new members votes
put-newest members votes wrote new w is m = record {
  members_are = m ∙ w.members_are;
  newest = λ side i l. rw is (w.newest side i l);
  strangers = λ side i u l e. w.strangers side i u l (rw is at e);
}

module _ {S D P G C : Type 0} (members : ℕ) (votes : List (Vote S D P G C)) (v : Vote S D P G C) (counts own : Bool) (kind : Kind) (complete : Bool) (wait known : List (Vote S D P G C)) where
  -- the kind's votes after it was written down
  pub record IsWritten (mid new : Rows S D P G C) : Type 0 where
    pub others : OthersStay mid new
    pub votes_are : (sure : Bool) → IsPermutation (if stands sure kind (as-held v counts own) then votes_in sure kind mid.rows.items ++ v ∷ [] else votes_in sure kind mid.rows.items) (votes_in sure kind new.rows.items)
    pub below : (sure : Bool) → stands sure kind (as-held v counts own) ≡ true → length (votes_in sure kind mid.rows.items) < length new.rows.items

  module _ (mid : Rows S D P G C) (k : AreNewest mid members votes) (is : KindIs kind mid complete wait known) (unwaited : find (is_in_way v) wait ≡ None) (unknown : find (is_in_way v) known ≡ None) where
    -- the votes of the kind that count so
    abbrev counted-list : Bool → List (Vote S D P G C)
    counted-list true = known
    counted-list false = wait

    listed : (sure : Bool) → IsPermutation (counted-list sure) (votes_in sure kind mid.rows.items)
    listed true = is.verified_are
    listed false = is.waiting_are

    unhindered : (sure : Bool) → find (is_in_way v) (counted-list sure) ≡ None
    unhindered true = unknown
    unhindered false = unwaited

    -- the vote that is written over doesn't count
    free : (sure : Bool) (d : Row S D P G C) → vote_signer v < members → vote_signer v < length mid.rows.items → is_kind Notarization (vote_kind v) ≡ is_kind Notarization kind → vote_in sure kind (get_or mid.rows.items (vote_signer v) d) ≡ None
    free sure d member l mine = go (vote_in sure kind (get_or mid.rows.items (vote_signer v) d)) refl
      where
        go : (o : Option (Vote S D P G C)) → vote_in sure kind (get_or mid.rows.items (vote_signer v) d) ≡ o → vote_in sure kind (get_or mid.rows.items (vote_signer v) d) ≡ None
        go None e = e
        go (Some u) e =
            let side = is_kind Notarization kind in
            let there = Contains-permutation (votes_in sure kind mid.rows.items) (counted-list sure) u (IsPermutation-sym _ _ (listed sure)) (row-there sure kind mid.rows.items (vote_signer v) d u l e) in
            let out : is_in_way v u ≡ false = not-there (is_in_way v) (counted-list sure) u (unhindered sure) there in
            let at : vote_at side mid.rows.items (vote_signer v) ≡ Some u = vote-here side mid.rows.items (vote_signer v) d l ∙ counted-vote sure kind (cell side (get_or mid.rows.items (vote_signer v) d)) u e in
            let is : is_of side (vote_signer v) u ≡ true = found-passes (is_of side (vote_signer v)) votes u (sym (k.newest side (vote_signer v) member) ∙ at) in
            let was : is_of (is_kind Notarization (vote_kind v)) (vote_signer v) u ≡ true = rw mine is in
            absurd (cc (was, in-its-way v u, out))

    written-member : (d : Row S D P G C) (new : Rows S D P G C) → OthersStay mid new → vote_signer v < members → members ≤ length mid.rows.items → new.rows.items ≡ with-vote (as-held v counts own) mid.rows.items d → IsWritten mid new
    written-member d new others member reached at =
        let l : vote_signer v < length mid.rows.items = omega (arith, member, reached) in
        let b = is_kind Notarization (vote_kind v) in record {
          others = others;
          votes_are = λ sure. rw at (written-over sure kind (as-held v counts own) mid.rows.items (vote_signer v) d l (free sure d member l));
          below = λ sure stands_.
              let mine = side-same kind (vote_kind v) (and_parts (is_marked sure (mark_of counts own)) (is_kind kind (vote_kind v)) stands_).1 in
              let fewer = filter_map-fewer (vote_in sure kind) mid.rows.items (vote_signer v) d l (free sure d member l (sym mine)) in
              rw (at, length-set mid.rows.items (vote_signer v) (with_cell b (as-held v counts own) (get_or mid.rows.items (vote_signer v) d))) fewer;
        }

    lone-votes : (sure : Bool) → vote_in sure kind (lone (as-held v counts own)) ≡ (if stands sure kind (as-held v counts own) then Some v else None)
    lone-votes sure = go (is_kind Notarization (vote_kind v)) (is_kind Notarization kind) refl refl (stands sure kind (as-held v counts own)) refl
      where
        go : (m n : Bool) → is_kind Notarization (vote_kind v) ≡ m → is_kind Notarization kind ≡ n → (c : Bool) → stands sure kind (as-held v counts own) ≡ c → counted_in sure kind (cell n (with_cell m (as-held v counts own) (record { notarize = None; other = None }))) ≡ (if c then Some v else None)
        go true true e f c is = rw is refl
        go false false e f c is = rw is refl
        go true false e f false is = refl
        go false true e f false is = refl
        go true false e f true is = absurd (cc (side-same kind (vote_kind v) (and_parts (is_marked sure (mark_of counts own)) (is_kind kind (vote_kind v)) is).1, e, f))
        go false true e f true is = absurd (cc (side-same kind (vote_kind v) (and_parts (is_marked sure (mark_of counts own)) (is_kind kind (vote_kind v)) is).1, e, f))

    written-stranger : (new : Rows S D P G C) → OthersStay mid new → new.rows.items ≡ with-stranger (as-held v counts own) mid.rows.items → IsWritten mid new
    written-stranger new others = go (is_aside (mark_of counts own)) refl
      where
        go : (b : Bool) → is_aside (mark_of counts own) ≡ b → new.rows.items ≡ (if b then mid.rows.items else mid.rows.items ++ lone (as-held v counts own) ∷ []) → IsWritten mid new
        go true e at = record {
          others = others;
          votes_are = λ sure. rw (at, never-marked sure (mark_of counts own) (is_kind kind (vote_kind v)) e) (IsPermutation-refl _);
          below = λ sure stands_. absurd (cc (stands_, never-marked sure (mark_of counts own) (is_kind kind (vote_kind v)) e));
        }
        go false e at = record {
          others = others;
          votes_are = λ sure. rw at (IsPermutation-same _ _ (sym (filter_map-append (vote_in sure kind) mid.rows.items (lone (as-held v counts own) ∷ []) ∙ rw (lone-votes sure) (last (stands sure kind (as-held v counts own)) (votes_in sure kind mid.rows.items)))));
          below = λ sure stands_. rw (at, length-append mid.rows.items (lone (as-held v counts own) ∷ [])) (omega (arith, filter_map-length (vote_in sure kind) mid.rows.items));
        }
          where
            last : (c : Bool) (xs : List (Vote S D P G C)) → xs ++ cons_option (if c then Some v else None) [] ≡ (if c then xs ++ v ∷ [] else xs)
            last true xs = refl
            last false xs = append-nil xs

    -- it is written down, a member's or a stranger's
    pub written : (m : Mark) (new : Rows S D P G C) → m ≡ mark_of counts own → WasWritten (record { vote = v; mark = m }) mid new → IsWritten mid new
    written m new e w = elim (cases_lt (vote_signer v) mid.members) [
      | inl low ↦ written-member (record { notarize = None; other = None }) new w.others (omega (arith, low, k.members_are)) (omega (arith, w.reached, k.members_are)) (rw e at (w.member low w.reached (record { notarize = None; other = None })))
      | inr high ↦ written-stranger new w.others (rw e at (w.stranger high))
    ]

    -- and then it is counted, if it counts
    abbrev pub IsTallied : Rows S D P G C → Rows S D P G C → Type 0
    IsTallied wrote new = (counts ≡ true → IsCounted own (is_kind kind (vote_kind v)) (length wrote.rows.items) (tally_at kind wrote) (tally_at kind new)) × (counts ≡ false → tally_at kind new ≡ tally_at kind wrote)

    put-waits : (c o : Bool) (wrote new : Rows S D P G C) → counts ≡ c → own ≡ o → IsWritten mid wrote → IsTallied wrote new → (tally_at kind new).waiting ≡ length (pushed kind v (c && not o) wait)
    put-waits true o wrote new e f w t =
        let counted = (t.0 e).waiting_count in
        let was : (tally_at kind wrote).waiting ≡ length wait = rw (w.others.tallies_stay kind) is.waiting_count in
        up-length (not o && is_kind kind (vote_kind v)) (length wrote.rows.items) (tally_at kind wrote).waiting (tally_at kind new).waiting wait v (rw f at counted) was
        (λ b.
        let up : stands false kind (as-held v counts own) ≡ true = rw (mark-is false counts own, e, f) b in
        let few = w.below false up in
        omega (arith, few, length_permutation wait (votes_in false kind mid.rows.items) is.waiting_are))
    put-waits false o wrote new e f w t = rw (t.1 e, w.others.tallies_stay kind) is.waiting_count

    put-sure : (c o : Bool) (wrote new : Rows S D P G C) → counts ≡ c → own ≡ o → IsWritten mid wrote → IsTallied wrote new → (tally_at kind new).verified ≡ length (pushed kind v (c && o) known)
    put-sure true o wrote new e f w t =
        let counted = (t.0 e).verified_count in
        let was : (tally_at kind wrote).verified ≡ length known = rw (w.others.tallies_stay kind) is.verified_count in
        up-length (o && is_kind kind (vote_kind v)) (length wrote.rows.items) (tally_at kind wrote).verified (tally_at kind new).verified known v (rw f at counted) was
        (λ b.
        let up : stands true kind (as-held v counts own) ≡ true = rw (mark-is true counts own, e, f) b in
        let few = w.below true up in
        omega (arith, few, length_permutation known (votes_in true kind mid.rows.items) is.verified_are))
    put-sure false o wrote new e f w t = rw (t.1 e, w.others.tallies_stay kind) is.verified_count

    put-complete : (c : Bool) (wrote new : Rows S D P G C) → counts ≡ c → IsWritten mid wrote → IsTallied wrote new → (tally_at kind new).complete ≡ complete
    put-complete true wrote new e w t = (t.0 e).complete_stays ∙ rw (w.others.tallies_stay kind) is.complete_is
    put-complete false wrote new e w t = rw (t.1 e, w.others.tallies_stay kind) is.complete_is

    pub put-kind : (wrote new : Rows S D P G C) → IsWritten mid wrote → new.rows ≡ wrote.rows → IsTallied wrote new → KindIs kind new complete (pushed kind v (counts && not own) wait) (pushed kind v (counts && own) known)
    put-kind wrote new w at t = record {
      complete_is = put-complete counts wrote new refl w t;
      waiting_are = rw at (IsPermutation-trans _ _ _ (more-both ((counts && not own) && is_kind kind (vote_kind v)) _ _ v is.waiting_are) (rw (mark-is false counts own) at (w.votes_are false)));
      verified_are = rw at (IsPermutation-trans _ _ _ (more-both ((counts && own) && is_kind kind (vote_kind v)) _ _ v is.verified_are) (rw (mark-is true counts own) at (w.votes_are true)));
      waiting_count = put-waits counts own wrote new refl refl w t;
      verified_count = put-sure counts own wrote new refl refl w t;
    }

-- ---- votes count no more, or are known to attest

module _ {S D P G C : Type 0} where
  kept-in : (q : Vote S D P G C → Bool) (sure : Bool) (kind : Kind) (o : Option (Held S D P G C)) → counted_in sure kind (option_map (kept q) o) ≡ if_passes q (counted_in sure kind o)
  kept-in q sure kind None = refl
  kept-in q sure kind (Some x) = go (q x.vote) refl sure (is_kind kind (vote_kind x.vote)) x.mark
    where
      go : (b : Bool) → q x.vote ≡ b → (sure mine : Bool) (m : Mark) → (if is_marked sure (if b then m else Aside) && mine then Some x.vote else None) ≡ if_passes q (if is_marked sure m && mine then Some x.vote else None)
      go true e true true Verified = rw e refl
      go true e true false Verified = refl
      go true e false mine Verified = refl
      go true e false true Waiting = rw e refl
      go true e false false Waiting = refl
      go true e true mine Waiting = refl
      go true e true mine Aside = refl
      go true e false mine Aside = refl
      go false e true true Verified = rw e refl
      go false e true false Verified = refl
      go false e false mine Verified = refl
      go false e false true Waiting = rw e refl
      go false e false false Waiting = refl
      go false e true mine Waiting = refl
      go false e true mine Aside = refl
      go false e false mine Aside = refl

  cell-each : (f : Held S D P G C → Held S D P G C) (side : Bool) (row : Row S D P G C) → cell side (each_cell f row) ≡ option_map f (cell side row)
  cell-each f true row = refl
  cell-each f false row = refl

  -- of votes that count no more where they don't pass those count that pass
  pub kept-votes : (q : Vote S D P G C → Bool) (sure : Bool) (kind : Kind) (rows : List (Row S D P G C)) → votes_in sure kind (map (each_cell (kept q)) rows) ≡ filter q (votes_in sure kind rows)
  kept-votes q sure kind rows = filter_map-map (vote_in sure kind) (each_cell (kept q)) rows ∙ filter_map-passes (vote_in sure kind) (λ row. vote_in sure kind (each_cell (kept q) row)) q rows
      (λ row. rw (cell-each (kept q) (is_kind Notarization kind) row) (kept-in q sure kind (cell (is_kind Notarization kind) row)))

  -- the votes stay where they are
  each-place : (f : Held S D P G C → Held S D P G C) → ((x : Held S D P G C) → (f x).vote ≡ x.vote) → (side : Bool) (rows : List (Row S D P G C)) (i : ℕ) → vote_at side (map (each_cell f) rows) i ≡ vote_at side rows i
  each-place f stays side [] i = refl
  each-place f stays side (row ∷ rows) zero = rw (cell-each f side row) (go (cell side row))
    where
      go : (o : Option (Held S D P G C)) → option_map (λ (x : Held S D P G C). x.vote) (option_map f o) ≡ option_map (λ (x : Held S D P G C). x.vote) o
      go None = refl
      go (Some x) = ap Some (stays x)
  each-place f stays side (row ∷ rows) (suc i) = each-place f stays side rows i

  pub each-stays : (f : Held S D P G C → Held S D P G C) → ((x : Held S D P G C) → (f x).vote ≡ x.vote) → (old new : Rows S D P G C) → new.members ≡ old.members → new.rows.items ≡ map (each_cell f) old.rows.items → PlacesStay old new
  each-stays f stays old new m is = record { members_stay = m; votes_stay = λ side i. rw is (each-place f stays side old.rows.items i) }

  pub kept-vote : (q : Vote S D P G C → Bool) (x : Held S D P G C) → (kept q x).vote ≡ x.vote
  kept-vote q x = refl

  pub settled-vote : (kind : Kind) (failing : List ℕ) (x : Held S D P G C) → (settled kind failing x).vote ≡ x.vote
  settled-vote kind failing x = go (stands false kind x)
    where
      go : (b : Bool) → (if b then record { vote = x.vote; mark = if is_among failing (vote_signer x.vote) then Aside else Verified } else x).vote ≡ x.vote
      go true = refl
      go false = refl

  -- the votes that pass, counted anew
  pub kept-kind : (q : Vote S D P G C → Bool) (kind : Kind) (old new : Rows S D P G C) (complete : Bool) (wait sure : List (Vote S D P G C)) → KindIs kind old complete wait sure
      → new.rows.items ≡ map (each_cell (kept q)) old.rows.items
      → tally_at kind new ≡ record { waiting = length (votes_in false kind new.rows.items); verified = length (votes_in true kind new.rows.items); complete = (tally_at kind old).complete }
      → KindIs kind new complete (filter q wait) (filter q sure)
  kept-kind q kind old new complete wait sure k is tally =
      let w : IsPermutation (filter q wait) (votes_in false kind new.rows.items) = rw (is, kept-votes q false kind old.rows.items) (IsPermutation-filter q _ _ k.waiting_are) in
      let x : IsPermutation (filter q sure) (votes_in true kind new.rows.items) = rw (is, kept-votes q true kind old.rows.items) (IsPermutation-filter q _ _ k.verified_are) in record {
        complete_is = rw tally k.complete_is;
        waiting_are = w;
        verified_are = x;
        waiting_count = rw tally (length_permutation _ _ w);
        verified_count = rw tally (length_permutation _ _ x);
      }

-- ---- a certificate was made

module _ {S D P G C : Type 0} where
  not-of : Kind → Vote S D P G C → Bool
  not-of kind v = not (is_kind kind (vote_kind v))

same-sym : (a b : Kind) → is_kind a b ≡ is_kind b a
same-sym Notarization Notarization = refl
same-sym Notarization Nullification = refl
same-sym Notarization Finalization = refl
same-sym Nullification Notarization = refl
same-sym Nullification Nullification = refl
same-sym Nullification Finalization = refl
same-sym Finalization Notarization = refl
same-sym Finalization Nullification = refl
same-sym Finalization Finalization = refl

module _ {S D P G C : Type 0} where
  finished-in : (kind k : Kind) (sure : Bool) (o : Option (Held S D P G C)) → counted_in sure k (option_map (kept (λ v. not (is_kind kind (vote_kind v)))) o) ≡ (if is_kind k kind then None else counted_in sure k o)
  finished-in kind k sure o = kept-in (λ v. not (is_kind kind (vote_kind v))) sure k o ∙ go o
    where
      go : (o : Option (Held S D P G C)) → if_passes (λ v. not (is_kind kind (vote_kind v))) (counted_in sure k o) ≡ (if is_kind k kind then None else counted_in sure k o)
      go None = none-if (is_kind k kind) None refl
      go (Some x) = mark (is_marked sure x.mark) (is_kind k (vote_kind x.vote)) refl
        where
          mark : (m c : Bool) → is_kind k (vote_kind x.vote) ≡ c → if_passes (λ v. not (is_kind kind (vote_kind v))) (if m && c then Some x.vote else None) ≡ (if is_kind k kind then None else (if m && c then Some x.vote else None))
          mark false c e = none-if (is_kind k kind) None refl
          mark true false e = none-if (is_kind k kind) None refl
          mark true true e = rw (one-kind k (vote_kind x.vote) kind e) (last (is_kind k kind))
            where
              last : (b : Bool) → cond (not b) (Some x.vote) None ≡ (if b then None else Some x.vote)
              last true = refl
              last false = refl

  -- of a kind that is finished no vote counts, and of others the same
  pub finished-votes : (kind k : Kind) (sure : Bool) (rows : List (Row S D P G C)) → votes_in sure k (map (each_cell (kept (λ v. not (is_kind kind (vote_kind v))))) rows) ≡ (if is_kind k kind then [] else votes_in sure k rows)
  finished-votes kind k sure rows = filter_map-map (vote_in sure k) (each_cell (kept (λ v. not (is_kind kind (vote_kind v))))) rows ∙ go (is_kind k kind) refl
    where
      at : (row : Row S D P G C) → vote_in sure k (each_cell (kept (λ v. not (is_kind kind (vote_kind v)))) row) ≡ (if is_kind k kind then None else vote_in sure k row)
      at row = rw (cell-each (kept (λ v. not (is_kind kind (vote_kind v)))) (is_kind Notarization k) row) (finished-in kind k sure (cell (is_kind Notarization k) row))

      go : (b : Bool) → is_kind k kind ≡ b → filter_map (λ row. vote_in sure k (each_cell (kept (λ v. not (is_kind kind (vote_kind v)))) row)) rows ≡ (if b then [] else votes_in sure k rows)
      go true e = filter_map-none _ rows (λ row. at row ∙ rw e refl)
      go false e = filter_map-same (vote_in sure k) _ rows (λ row. at row ∙ rw e refl)

  pub finished-kind : (kind k : Kind) (old new : Rows S D P G C) (complete : Bool) (wait sure : List (Vote S D P G C)) → KindIs k old complete wait sure
      → new.rows.items ≡ map (each_cell (kept (λ v. not (is_kind kind (vote_kind v))))) old.rows.items
      → tally_at k new ≡ (if is_kind kind k then record { waiting = 0; verified = 0; complete = true } else tally_at k old)
      → KindIs k new (is_kind k kind || complete) (if is_kind k kind then [] else wait) (if is_kind k kind then [] else sure)
  finished-kind kind k old new complete wait sure is rows tally = go (is_kind k kind) refl
    where
      go : (b : Bool) → is_kind k kind ≡ b → KindIs k new (b || complete) (if b then [] else wait) (if b then [] else sure)
      go true e =
          let none : tally_at k new ≡ record { waiting = 0; verified = 0; complete = true } = tally ∙ rw (same-sym kind k, e) refl in record {
            complete_is = rw none refl;
            waiting_are = rw (rows, finished-votes kind k false old.rows.items, e) (IsPermutation-refl []);
            verified_are = rw (rows, finished-votes kind k true old.rows.items, e) (IsPermutation-refl []);
            waiting_count = rw none refl;
            verified_count = rw none refl;
          }
      go false e =
          let stays : tally_at k new ≡ tally_at k old = tally ∙ rw (same-sym kind k, e) refl in record {
            complete_is = rw stays is.complete_is;
            waiting_are = rw (rows, finished-votes kind k false old.rows.items, e) is.waiting_are;
            verified_are = rw (rows, finished-votes kind k true old.rows.items, e) is.verified_are;
            waiting_count = rw stays is.waiting_count;
            verified_count = rw stays is.verified_count;
          }

-- ---- the votes that waited were judged

sure-not : (m : Mark) → is_marked false m ≡ true → is_marked true m ≡ false
sure-not Aside e = refl
sure-not Waiting e = refl
sure-not Verified e = absurd (cc e)

or-none : {Y : Type 0} (a : Option Y) → a ≡ or_else a None
or-none None = refl
or-none (Some y) = refl

module _ {S D P G C : Type 0} (kind : Kind) (failing : List ℕ) where
  -- the signer is none of those that fail
  abbrev others : Vote S D P G C → Bool
  others v = not (is_among failing (vote_signer v))

  settled-waits : (o : Option (Held S D P G C)) → counted_in false kind (option_map (settled kind failing) o) ≡ None
  settled-waits None = refl
  settled-waits (Some x) = go (stands false kind x) refl
    where
      after : (b : Bool) → (if is_marked false (if b then Aside else Verified) && is_kind kind (vote_kind x.vote) then Some x.vote else None) ≡ None
      after true = refl
      after false = refl

      go : (b : Bool) → stands false kind x ≡ b → counted_in false kind (Some (if b then record { vote = x.vote; mark = if is_among failing (vote_signer x.vote) then Aside else Verified } else x)) ≡ None
      go true e = after (is_among failing (vote_signer x.vote))
      go false e = rw e refl

  -- one that waited, by whether it fails
  settle-case : (fails mine known waits : Bool) (v : Vote S D P G C) → mine ≡ true → known ≡ false → waits ≡ true → others v ≡ not fails
      → (if is_marked true (if fails then Aside else Verified) && mine then Some v else None) ≡ or_else (if known && mine then Some v else None) (if_passes others (if waits then Some v else None))
  settle-case true true false true v m k w is = rw is refl
  settle-case false true false true v m k w is = rw is refl
  settle-case fails false known waits v m k w is = absurd (cc m)
  settle-case fails true true waits v m k w is = absurd (cc k)
  settle-case fails true false false v m k w is = absurd (cc w)

  settled-sure : (o : Option (Held S D P G C)) → counted_in true kind (option_map (settled kind failing) o) ≡ or_else (counted_in true kind o) (if_passes others (counted_in false kind o))
  settled-sure None = refl
  settled-sure (Some x) = go (stands false kind x) refl
    where
      go : (b : Bool) → stands false kind x ≡ b → counted_in true kind (Some (if b then record { vote = x.vote; mark = if is_among failing (vote_signer x.vote) then Aside else Verified } else x)) ≡ or_else (counted_in true kind (Some x)) (if_passes others (if b then Some x.vote else None))
      go true e =
          let both = and_parts (is_marked false x.mark) (is_kind kind (vote_kind x.vote)) e in
          settle-case (is_among failing (vote_signer x.vote)) (is_kind kind (vote_kind x.vote)) (is_marked true x.mark) true x.vote both.1 (sure-not x.mark both.0) refl refl
      go false e = or-none (counted_in true kind (Some x))

  settled-apart : (o : Option (Held S D P G C)) → NotBoth (counted_in true kind o) (if_passes others (counted_in false kind o))
  settled-apart None = inl refl
  settled-apart (Some x) = go x.mark (is_kind kind (vote_kind x.vote))
    where
      go : (m : Mark) (c : Bool) → NotBoth (if is_marked true m && c then Some x.vote else None) (if_passes others (if is_marked false m && c then Some x.vote else None))
      go Aside c = inl refl
      go Verified c = inr refl
      go Waiting c = inl refl

  settled-other : (k : Kind) (sure : Bool) (o : Option (Held S D P G C)) → is_kind k kind ≡ false → counted_in sure k (option_map (settled kind failing) o) ≡ counted_in sure k o
  settled-other k sure None e = refl
  settled-other k sure (Some x) e = go (stands false kind x) refl
    where
      go : (b : Bool) → stands false kind x ≡ b → counted_in sure k (Some (if b then record { vote = x.vote; mark = if is_among failing (vote_signer x.vote) then Aside else Verified } else x)) ≡ counted_in sure k (Some x)
      go true is =
          let mine = (and_parts (is_marked false x.mark) (is_kind kind (vote_kind x.vote)) is).1 in
          let none : is_kind k (vote_kind x.vote) ≡ false = one-kind kind (vote_kind x.vote) k mine ∙ same-sym kind k ∙ e in
          rw (none, and-none (is_marked sure (if is_among failing (vote_signer x.vote) then Aside else Verified)) false refl, and-none (is_marked sure x.mark) false refl) refl
      go false is = refl

  settled-votes-wait : (rows : List (Row S D P G C)) → votes_in false kind (map (each_cell (settled kind failing)) rows) ≡ []
  settled-votes-wait rows = filter_map-map (vote_in false kind) (each_cell (settled kind failing)) rows ∙ filter_map-none _ rows
      (λ row. rw (cell-each (settled kind failing) (is_kind Notarization kind) row) (settled-waits (cell (is_kind Notarization kind) row)))

  settled-votes-sure : (rows : List (Row S D P G C)) → IsPermutation (votes_in true kind rows ++ filter others (votes_in false kind rows)) (votes_in true kind (map (each_cell (settled kind failing)) rows))
  settled-votes-sure rows =
      let picked = filter_map-passes (vote_in false kind) (λ row. if_passes others (vote_in false kind row)) others rows (λ row. refl) in
      let either = filter_map-either (vote_in true kind) (λ row. if_passes others (vote_in false kind row)) (λ row. vote_in true kind (each_cell (settled kind failing) row)) rows
      (λ row. rw (cell-each (settled kind failing) (is_kind Notarization kind) row) (settled-sure (cell (is_kind Notarization kind) row)))
      (λ row. settled-apart (cell (is_kind Notarization kind) row)) in
      rw (filter_map-map (vote_in true kind) (each_cell (settled kind failing)) rows, ← picked) either

  settled-votes-other : (k : Kind) (sure : Bool) (rows : List (Row S D P G C)) → is_kind k kind ≡ false → votes_in sure k (map (each_cell (settled kind failing)) rows) ≡ votes_in sure k rows
  settled-votes-other k sure rows e = filter_map-map (vote_in sure k) (each_cell (settled kind failing)) rows ∙ filter_map-same (vote_in sure k) _ rows
      (λ row. rw (cell-each (settled kind failing) (is_kind Notarization k) row) (settled-other k sure (cell (is_kind Notarization k) row) e))

  pub settled-kind : (k : Kind) (old new : Rows S D P G C) (complete : Bool) (wait sure : List (Vote S D P G C)) → KindIs k old complete wait sure
      → new.rows.items ≡ map (each_cell (settled kind failing)) old.rows.items
      → tally_at k new ≡ (if is_kind kind k then record { waiting = length (votes_in false kind new.rows.items); verified = length (votes_in true kind new.rows.items); complete = (tally_at kind old).complete } else tally_at k old)
      → KindIs k new complete (settled_waiting k kind wait) (settled_verified k kind failing wait sure)
  settled-kind k old new complete wait sure is rows tally = go (is_kind k kind) refl
    where
      go : (b : Bool) → is_kind k kind ≡ b → KindIs k new complete (if b then [] else wait) (if b then sure ++ filter others wait else sure)
      go true e =
          let one : kind ≡ k = kind-same k kind e in
          let at : tally_at k new ≡ record { waiting = length (votes_in false kind new.rows.items); verified = length (votes_in true kind new.rows.items); complete = (tally_at kind old).complete } = tally ∙ rw (same-sym kind k, e) refl in
          let waits : IsPermutation [] (votes_in false k new.rows.items) = rw (rows, ← one, settled-votes-wait old.rows.items) (IsPermutation-refl []) in
          let olds = rw (← one) at (IsPermutation-append sure (votes_in true k old.rows.items) (filter others wait) (filter others (votes_in false k old.rows.items)) is.verified_are (IsPermutation-filter others _ _ is.waiting_are)) in
          let sures : IsPermutation (sure ++ filter others wait) (votes_in true k new.rows.items) = rw (rows, ← one) (IsPermutation-trans _ _ _ olds (settled-votes-sure old.rows.items)) in record {
            complete_is = rw (at, one) is.complete_is;
            waiting_are = waits;
            verified_are = sures;
            waiting_count = rw (at, one) (length_permutation _ _ waits);
            verified_count = rw (at, one) (length_permutation _ _ sures);
          }
      go false e =
          let stays : tally_at k new ≡ tally_at k old = tally ∙ rw (same-sym kind k, e) refl in record {
            complete_is = rw stays is.complete_is;
            waiting_are = rw (rows, settled-votes-other k false old.rows.items e) is.waiting_are;
            verified_are = rw (rows, settled-votes-other k true old.rows.items e) is.verified_are;
            waiting_count = rw stays is.waiting_count;
            verified_count = rw stays is.verified_count;
          }

-- ---- counted anew

module _ {S D P G C : Type 0} where
  -- what counts of a kind, counted anew
  abbrev pub anew : Kind → Rows S D P G C → Tally
  anew kind rows = record { waiting = length (votes_in false kind rows.rows.items); verified = length (votes_in true kind rows.rows.items); complete = (tally_at kind rows).complete }

  -- all three kinds were counted anew
  pub anew-all : (r0 r1 r2 r3 : Rows S D P G C) → r1.rows ≡ r0.rows → r2.rows ≡ r1.rows → r3.rows ≡ r2.rows
      → ((k : Kind) → tally_at k r1 ≡ (if is_kind Notarization k then anew Notarization r0 else tally_at k r0))
      → ((k : Kind) → tally_at k r2 ≡ (if is_kind Nullification k then anew Nullification r1 else tally_at k r1))
      → ((k : Kind) → tally_at k r3 ≡ (if is_kind Finalization k then anew Finalization r2 else tally_at k r2))
      → (kind : Kind) → tally_at kind r3 ≡ record { waiting = length (votes_in false kind r3.rows.items); verified = length (votes_in true kind r3.rows.items); complete = (tally_at kind r0).complete }
  anew-all r0 r1 r2 r3 a b c t1 t2 t3 Notarization = rw (c, b, a) (t3 Notarization ∙ t2 Notarization ∙ t1 Notarization)
  anew-all r0 r1 r2 r3 a b c t1 t2 t3 Nullification = rw (c, b, ← t1 Nullification) (t3 Nullification ∙ t2 Nullification)
  anew-all r0 r1 r2 r3 a b c t1 t2 t3 Finalization = rw (c, ← t1 Finalization, ← t2 Finalization) (t3 Finalization)

  -- votes that pass count on, all kinds counted anew
  pub kept-anew : (q : Vote S D P G C → Bool) (kind : Kind) (old r0 r1 r2 r3 : Rows S D P G C) (complete : Bool) (wait sure : List (Vote S D P G C)) → KindIs kind old complete wait sure
      → r3.rows.items ≡ map (each_cell (kept q)) old.rows.items → r0.notarizes ≡ old.notarizes → r0.nullifies ≡ old.nullifies → r0.finalizes ≡ old.finalizes
      → r1.rows ≡ r0.rows → r2.rows ≡ r1.rows → r3.rows ≡ r2.rows
      → ((k : Kind) → tally_at k r1 ≡ (if is_kind Notarization k then anew Notarization r0 else tally_at k r0))
      → ((k : Kind) → tally_at k r2 ≡ (if is_kind Nullification k then anew Nullification r1 else tally_at k r1))
      → ((k : Kind) → tally_at k r3 ≡ (if is_kind Finalization k then anew Finalization r2 else tally_at k r2))
      → KindIs kind r3 complete (filter q wait) (filter q sure)
  kept-anew q kind old r0 r1 r2 r3 complete wait sure k items n u f a b c t1 t2 t3 =
      kept-kind q kind old r3 complete wait sure k items (rw (← tallies-as r0 old n u f kind) (anew-all r0 r1 r2 r3 a b c t1 t2 t3 kind))

  -- votes of a finished kind count no more
  pub finished-anew : (kind k : Kind) (old r0 new : Rows S D P G C) (complete : Bool) (wait sure : List (Vote S D P G C)) → KindIs k old complete wait sure
      → new.rows.items ≡ map (each_cell (kept (λ v. not (is_kind kind (vote_kind v))))) old.rows.items → r0.notarizes ≡ old.notarizes → r0.nullifies ≡ old.nullifies → r0.finalizes ≡ old.finalizes
      → tally_at k new ≡ (if is_kind kind k then record { waiting = 0; verified = 0; complete = true } else tally_at k r0)
      → KindIs k new (is_kind k kind || complete) (if is_kind k kind then [] else wait) (if is_kind k kind then [] else sure)
  finished-anew kind k old r0 new complete wait sure is items n u f tally = finished-kind kind k old new complete wait sure is items (rw (← tallies-as r0 old n u f k) tally)

  -- votes of a kind were judged, the kind counted anew
  pub settled-anew : (kind : Kind) (failing : List ℕ) (k : Kind) (old r0 new : Rows S D P G C) (complete : Bool) (wait sure : List (Vote S D P G C)) → KindIs k old complete wait sure
      → new.rows.items ≡ map (each_cell (settled kind failing)) old.rows.items → r0.notarizes ≡ old.notarizes → r0.nullifies ≡ old.nullifies → r0.finalizes ≡ old.finalizes
      → new.rows ≡ r0.rows → tally_at k new ≡ (if is_kind kind k then anew kind r0 else tally_at k r0)
      → KindIs k new complete (settled_waiting k kind wait) (settled_verified k kind failing wait sure)
  settled-anew kind failing k old r0 new complete wait sure is items n u f same tally =
      settled-kind kind failing k old new complete wait sure is items (tally ∙ rw (same, ← tallies-as r0 old n u f k, ← tallies-as r0 old n u f kind) refl)

-- ---- the beginning

module _ {S D P G C : Type 0} where
  tally-same : (rows : Rows S D P G C) (t : Tally) → rows.notarizes ≡ t → rows.nullifies ≡ t → rows.finalizes ≡ t → (kind : Kind) → tally_at kind rows ≡ t
  tally-same rows t n u f Notarization = n
  tally-same rows t n u f Nullification = u
  tally-same rows t n u f Finalization = f

  -- no votes, and no certificates
  pub new-kind : (rows : Rows S D P G C) → rows.notarizes ≡ record { waiting = 0; verified = 0; complete = false } → rows.nullifies ≡ record { waiting = 0; verified = 0; complete = false } → rows.finalizes ≡ record { waiting = 0; verified = 0; complete = false }
      → rows.rows.items ≡ [] → (kind : Kind) → KindIs kind rows false [] []
  new-kind rows n u f none kind =
      let at = tally-same rows (record { waiting = 0; verified = 0; complete = false }) n u f kind in record {
        complete_is = rw at refl;
        waiting_are = rw none (IsPermutation-refl []);
        verified_are = rw none (IsPermutation-refl []);
        waiting_count = rw at refl;
        verified_count = rw at refl;
      }
