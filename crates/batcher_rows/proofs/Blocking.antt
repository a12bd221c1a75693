-- Votes that count and stand in the way of one that comes.
use Rattle.std.proofs.Common.{◌≡◌, ◌≤◌, ◌<◌, ◌+◌, ◌==◌, ◌&&◌, ◌∙◌, inl, inr, ℕ, zero, suc, Bool, true, false, not, cond, List, [], ◌∷◌, refl, ap, sym, subst, arith, get_or, length, find}
use Rattle.std.specs.Prelude.{Option, None, Some, ⊤, if◌then◌else◌}
use Rattle.std.specs.List.{cons_option, slice_get}
use Rattle.std.specs.Option.{option_map, option_and_then}
use Rattle.std.proofs.lemmas.Bool.{cases_lt, and_parts}
use Rattle.std.proofs.lemmas.Option.{slice_get-get_or, slice_get_past}
use Rattle.simplex_messages.specs.declared.vote.Vote.{Vote}
use Rattle.simplex_messages.specs.declared.vote.Vote.TheVariants as vote
use Rattle.simplex_messages.specs.VoteParts.{vote_signer}
use Rattle.types_terms.specs.declared.kind.Kind.{Kind}
use Rattle.types_terms.specs.declared.kind.Kind.TheVariants.{Notarization, Nullification, Finalization}
use Rattle.batcher_rows.specs.declared.rows.Mark.{Mark}
use Rattle.batcher_rows.specs.declared.rows.Mark.TheVariants.{Aside, Waiting, Verified}
use Rattle.batcher_rows.specs.declared.rows.Held.{Held}
use Rattle.batcher_rows.specs.declared.rows.Row.{Row}
use Rattle.batcher_rows.specs.declared.rows.Rows.{Rows}
use Rattle.batcher_rows.specs.Votes.{is_kind, is_of, is_in_way, vote_kind}
use Rattle.batcher_rows.specs.Rows.{AreNewest, NoneInWay, StrangersFree, blocks, blocks_at, blocks_in, cell, counted_in, is_aside, is_marked, newest_of, stands, vote_in, votes_in}
use Rattle.batcher_rows.proofs.Holding.{found-passes, in-its-way, side-same}

-- a vote that doesn't count is neither known to attest nor does it wait
counts : (sure : Bool) (m : Mark) → is_marked sure m ≡ true → is_aside m ≡ false
counts true Verified e = refl
counts false Waiting e = refl
counts true Aside e = absurd (cc e)
counts false Aside e = absurd (cc e)
counts true Waiting e = absurd (cc e)
counts false Verified e = absurd (cc e)

marked : (m : Mark) → is_aside m ≡ false → (sure : Bool) × (is_marked sure m ≡ true)
marked Verified e = (true, refl)
marked Waiting e = (false, refl)
marked Aside e = absurd (cc e)

its-kind : (k : Kind) → is_kind k k ≡ true
its-kind Notarization = refl
its-kind Nullification = refl
its-kind Finalization = refl

not-false : (b : Bool) → not b ≡ true → b ≡ false
not-false false e = refl
not-false true e = absurd (cc e)

never : (b c : Bool) → c ≡ false → b && c ≡ false
never true c e = e
never false c e = refl

module _ {S D P G C : Type 0} where
  -- what stands in a vote's way is of its side
  of-its-side : (v u : Vote S D P G C) → is_in_way v u ≡ true → is_kind Notarization (vote_kind u) ≡ is_kind Notarization (vote_kind v)
  of-its-side (vote.Notarize v) (vote.Notarize u) e = refl
  of-its-side (vote.Nullify v) (vote.Nullify u) e = refl
  of-its-side (vote.Nullify v) (vote.Finalize u) e = refl
  of-its-side (vote.Finalize v) (vote.Nullify u) e = refl
  of-its-side (vote.Finalize v) (vote.Finalize u) e = refl
  of-its-side (vote.Notarize v) (vote.Nullify u) e = absurd (cc e)
  of-its-side (vote.Notarize v) (vote.Finalize u) e = absurd (cc e)
  of-its-side (vote.Nullify v) (vote.Notarize u) e = absurd (cc e)
  of-its-side (vote.Finalize v) (vote.Notarize u) e = absurd (cc e)

  -- a vote of this signer is
  of-signer : (side : Bool) (i : ℕ) (u : Vote S D P G C) → is_of side i u ≡ true → vote_signer u ≡ i
  of-signer true i (vote.Notarize u) e = grind (arith, e)
  of-signer false i (vote.Nullify u) e = grind (arith, e)
  of-signer false i (vote.Finalize u) e = grind (arith, e)
  of-signer true i (vote.Nullify u) e = absurd (cc e)
  of-signer true i (vote.Finalize u) e = absurd (cc e)
  of-signer false i (vote.Notarize u) e = absurd (cc e)

  -- what stands in a vote's way is of its signer
  of-its-signer : (v u : Vote S D P G C) → is_in_way v u ≡ true → vote_signer u ≡ vote_signer v
  of-its-signer v u e = of-signer (is_kind Notarization (vote_kind v)) (vote_signer v) u (in-its-way v u ∙ e)

  -- what counts of a cell stands there
  counted-cell : (sure : Bool) (kind : Kind) (o : Option (Held S D P G C)) (u : Vote S D P G C) → counted_in sure kind o ≡ Some u
      → (x : Held S D P G C) × (o ≡ Some x) × (stands sure kind x ≡ true) × (x.vote ≡ u)
  counted-cell sure kind None u e = absurd (cc e)
  counted-cell sure kind (Some x) u e = go (stands sure kind x) refl e
    where
      go : (c : Bool) → stands sure kind x ≡ c → (if c then Some x.vote else None) ≡ Some u → (y : Held S D P G C) × (Some x ≡ Some y) × (stands sure kind y ≡ true) × (y.vote ≡ u)
      go true is e = (x, refl, is, cc e)
      go false is e = absurd (cc e)

  module _ (v : Vote S D P G C) where
    -- what counts of a row that blocks nothing stands in no one's way
    row-free : (sure : Bool) (kind : Kind) (row : Row S D P G C) (u : Vote S D P G C) → blocks v row ≡ false → vote_in sure kind row ≡ Some u → is_in_way v u ≡ false
    row-free sure kind row u free e = go (is_in_way v u) refl
      where
        go : (c : Bool) → is_in_way v u ≡ c → is_in_way v u ≡ false
        go false is = is
        go true is =
            let found = counted-cell sure kind (cell (is_kind Notarization kind) row) u e in
            let mine = and_parts (is_marked sure found.0.mark) (is_kind kind (vote_kind found.0.vote)) found.2 in
            let side : is_kind Notarization kind ≡ is_kind Notarization (vote_kind v) = side-same kind (vote_kind found.0.vote) mine.1 ∙ ap (λ (w : Vote S D P G C). is_kind Notarization (vote_kind w)) found.3 ∙ of-its-side v u is in
            let at : cell (is_kind Notarization (vote_kind v)) row ≡ Some found.0 = ap (λ (b : Bool). cell b row) (sym side) ∙ found.1 in
            let blocked : blocks v row ≡ true = rw (at, counts sure found.0.mark mine.0, found.3, is) refl in
            absurd (cc (free, blocked))

    -- a row that blocks the vote has one that counts and stands in its way
    row-blocked : (row : Row S D P G C) → blocks v row ≡ true → (sure : Bool) × (kind : Kind) × (u : Vote S D P G C) × (vote_in sure kind row ≡ Some u) × (is_in_way v u ≡ true)
    row-blocked row blocked = go (cell (is_kind Notarization (vote_kind v)) row) refl blocked
      where
        go : (o : Option (Held S D P G C)) → cell (is_kind Notarization (vote_kind v)) row ≡ o → blocks_in v o ≡ true → (sure : Bool) × (kind : Kind) × (u : Vote S D P G C) × (vote_in sure kind row ≡ Some u) × (is_in_way v u ≡ true)
        go None at e = absurd (cc e)
        go (Some x) at e =
            let parts = and_parts (not (is_aside x.mark)) (is_in_way v x.vote) e in
            let mark = marked x.mark (not-false (is_aside x.mark) parts.0) in
            let side = of-its-side v x.vote parts.1 in
            (mark.0, vote_kind x.vote, x.vote, rw (side, at, mark.1, its-kind (vote_kind x.vote)) refl, parts.1)

    -- where no row blocks the vote, nothing is found in its way
    none-found : (sure : Bool) (kind : Kind) (rows : List (Row S D P G C)) → ((i : ℕ) → blocks_at v (slice_get rows i) ≡ false) → find (is_in_way v) (votes_in sure kind rows) ≡ None
    none-found sure kind [] free = refl
    none-found sure kind (row ∷ rows) free = go (vote_in sure kind row) refl (none-found sure kind rows (λ i. free (suc i)))
      where
        go : (o : Option (Vote S D P G C)) → vote_in sure kind row ≡ o → find (is_in_way v) (votes_in sure kind rows) ≡ None → find (is_in_way v) (cons_option o (votes_in sure kind rows)) ≡ None
        go None e rest = rest
        go (Some u) e rest = rw (row-free sure kind row u (free zero) e) rest

    -- and the other way round
    found-none : (sure : Bool) (kind : Kind) (rows : List (Row S D P G C)) (i : ℕ) (row : Row S D P G C) (u : Vote S D P G C) → find (is_in_way v) (votes_in sure kind rows) ≡ None
        → slice_get rows i ≡ Some row → vote_in sure kind row ≡ Some u → is_in_way v u ≡ false
    found-none sure kind [] i row u none at e = absurd (cc at)
    found-none sure kind (r ∷ rows) zero row u none at e =
        let same : r ≡ row = cc at in
        go (is_in_way v u) refl (rw (same, e) at none)
      where
        go : (c : Bool) → is_in_way v u ≡ c → cond (is_in_way v u) (Some u) (find (is_in_way v) (votes_in sure kind rows)) ≡ None → is_in_way v u ≡ false
        go false is none = is
        go true is none = absurd (cc (rw is at none))
    found-none sure kind (r ∷ rows) (suc i) row u none at e = found-none sure kind rows i row u (go (vote_in sure kind r) none) at e
      where
        go : (o : Option (Vote S D P G C)) → find (is_in_way v) (cons_option o (votes_in sure kind rows)) ≡ None → find (is_in_way v) (votes_in sure kind rows) ≡ None
        go None none = none
        go (Some w) none = deeper (is_in_way v w) none
          where
            deeper : (c : Bool) → cond c (Some w) (find (is_in_way v) (votes_in sure kind rows)) ≡ None → find (is_in_way v) (votes_in sure kind rows) ≡ None
            deeper false none = none
            deeper true none = absurd (cc none)

    none-blocks : (rows : List (Row S D P G C)) → ((sure : Bool) (kind : Kind) → find (is_in_way v) (votes_in sure kind rows) ≡ None) → (i : ℕ) → blocks_at v (slice_get rows i) ≡ false
    none-blocks rows none i = go (slice_get rows i) refl
      where
        go : (o : Option (Row S D P G C)) → slice_get rows i ≡ o → blocks_at v o ≡ false
        go None at = refl
        go (Some row) at = deeper (blocks v row) refl
          where
            deeper : (c : Bool) → blocks v row ≡ c → blocks v row ≡ false
            deeper false is = is
            deeper true is =
                let found = row-blocked row is in
                let free : is_in_way v found.2 ≡ false = found-none found.0 found.1 rows i row found.2 (none found.0 found.1) at found.3 in
                absurd (cc (free, found.4))

    -- no row blocks the vote exactly where nothing that counts stands in its way
    pub rows-free : (rows : Rows S D P G C) → ((i : ℕ) → blocks_at v (slice_get rows.rows.items i) ≡ false) → NoneInWay rows v
    rows-free rows free = λ sure kind. none-found sure kind rows.rows.items free

    pub free-rows : (rows : Rows S D P G C) → NoneInWay rows v → (i : ℕ) → blocks_at v (slice_get rows.rows.items i) ≡ false
    free-rows rows none = none-blocks rows.rows.items none

    -- a row that blocks the vote holds one that stands in its way
    unless : (rows : List (Row S D P G C)) (i : ℕ)
        → ((row : Row S D P G C) (x : Held S D P G C) → slice_get rows i ≡ Some row → cell (is_kind Notarization (vote_kind v)) row ≡ Some x → is_in_way v x.vote ≡ true → blocks_at v (slice_get rows i) ≡ false)
        → blocks_at v (slice_get rows i) ≡ false
    unless rows i where-way = go (slice_get rows i) refl
      where
        go : (o : Option (Row S D P G C)) → slice_get rows i ≡ o → blocks_at v (slice_get rows i) ≡ false
        go None at = rw at refl
        go (Some row) at = held (cell (is_kind Notarization (vote_kind v)) row) refl
          where
            held : (o : Option (Held S D P G C)) → cell (is_kind Notarization (vote_kind v)) row ≡ o → blocks_at v (slice_get rows i) ≡ false
            held None is = rw (at, is) refl
            held (Some x) is = deeper (is_in_way v x.vote) refl
              where
                deeper : (c : Bool) → is_in_way v x.vote ≡ c → blocks_at v (slice_get rows i) ≡ false
                deeper true way = where-way row x at is way
                deeper false way = rw (at, is) (never (not (is_aside x.mark)) (is_in_way v x.vote) way)

    module _ (rows : Rows S D P G C) (members : ℕ) (votes : List (Vote S D P G C)) (k : AreNewest rows members votes) where
      abbrev side : Bool
      side = is_kind Notarization (vote_kind v)

      newest : (i : ℕ) (row : Row S D P G C) (x : Held S D P G C) → slice_get rows.rows.items i ≡ Some row → cell side row ≡ Some x → newest_of side rows i ≡ Some x.vote
      newest i row x at held = rw (at, held) refl

      -- what stands in its way in a member's row is of that member
      member-row : (i : ℕ) (row : Row S D P G C) (x : Held S D P G C) → i < members → slice_get rows.rows.items i ≡ Some row → cell side row ≡ Some x → is_in_way v x.vote ≡ true → i ≡ vote_signer v
      member-row i row x low at held way =
          let found = sym (k.newest side i low) ∙ newest i row x at held in
          sym (of-signer side i x.vote (found-passes (is_of side i) votes x.vote found)) ∙ of-its-signer v x.vote way

      -- and behind the members' rows of a stranger
      stranger-row : (i : ℕ) (row : Row S D P G C) (x : Held S D P G C) → members ≤ i → slice_get rows.rows.items i ≡ Some row → cell side row ≡ Some x → is_in_way v x.vote ≡ true → members ≤ vote_signer v
      stranger-row i row x high at held way =
          let far = k.strangers side i x.vote high (newest i row x at held) in
          let one = of-its-signer v x.vote way in
          omega (arith, far, one)

      -- of a member one looks at its own row
      pub member-free : vote_signer v < members → blocks_at v (slice_get rows.rows.items (vote_signer v)) ≡ false → (i : ℕ) → blocks_at v (slice_get rows.rows.items i) ≡ false
      member-free member free i = unless rows.rows.items i (λ row x at held way. elim (cases_lt i members) [
        | inl low ↦ subst (λ (n : ℕ). blocks_at v (slice_get rows.rows.items n) ≡ false) (sym (member-row i row x low at held way)) free
        | inr high ↦ let far = stranger-row i row x high at held way in absurd (omega (arith, far, member))
      ])

      -- and of a stranger at the rows behind the members'
      pub stranger-free : members ≤ vote_signer v → StrangersFree v rows → (i : ℕ) → blocks_at v (slice_get rows.rows.items i) ≡ false
      stranger-free stranger free i = unless rows.rows.items i (λ row x at held way. elim (cases_lt i members) [
        | inl low ↦ let mine = member-row i row x low at held way in absurd (omega (arith, low, mine, stranger))
        | inr high ↦ free i (rw k.members_are high)
      ])

    -- a walk over the rows behind the members': one more doesn't block it
    pub one-more : (rows : List (Row S D P G C)) (members n : ℕ) → blocks_at v (slice_get rows n) ≡ false → ((i : ℕ) → members ≤ i → i < n → blocks_at v (slice_get rows i) ≡ false)
        → (i : ℕ) → members ≤ i → i < n + 1 → blocks_at v (slice_get rows i) ≡ false
    one-more rows members n free before i behind l = elim (cases_lt i n) [
      | inl low ↦ before i behind low
      | inr high ↦ let same : i ≡ n = omega (arith, l, high) in rw same free
    ]

    pub all-walked : (rows : List (Row S D P G C)) (members n : ℕ) → length rows ≤ n → ((i : ℕ) → members ≤ i → i < n → blocks_at v (slice_get rows i) ≡ false)
        → (i : ℕ) → members ≤ i → blocks_at v (slice_get rows i) ≡ false
    all-walked rows members n long before i behind = elim (cases_lt i n) [
      | inl low ↦ before i behind low
      | inr high ↦ rw (slice_get_past rows i (omega (arith, long, high))) refl
    ]
