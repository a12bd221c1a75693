-- What stays known of rows in which the same votes stand.
use Rattle.std.specs.Prelude.{◌≡◌, ℕ, Bool, true, false, List, None, find}
use Rattle.std.proofs.lemmas.List.Sorted.{IsPermutation-sym}
use Rattle.std.proofs.Common.{sym, ◌∙◌}
use Rattle.simplex_messages.specs.declared.vote.Vote.{Vote}
use Rattle.types_terms.specs.declared.kind.Kind.{Kind}
use Rattle.batcher_rows.specs.declared.rows.Rows.{Rows}
use Rattle.batcher_rows.specs.Permutations.{find_none-permuted}
use Rattle.batcher_rows.specs.Votes.{is_in_way}
use Rattle.batcher_rows.specs.Rows.{KindIs, AreNewest, NoneInWay, PlacesStay, RowsStay, votes_of}

module _ {S D P G C : Type 0} where
  pub stays-kind : (kind : Kind) (old new : Rows S D P G C) (complete : Bool) (wait sure : List (Vote S D P G C)) → RowsStay old new → KindIs kind old complete wait sure → KindIs kind new complete wait sure
  stays-kind kind old new complete wait sure r k = record {
    complete_is = rw (r.tallies kind) k.complete_is;
    waiting_are = rw (r.votes false kind) k.waiting_are;
    verified_are = rw (r.votes true kind) k.verified_are;
    waiting_count = rw (r.tallies kind) k.waiting_count;
    verified_count = rw (r.tallies kind) k.verified_count;
  }

  pub places-newest : (members : ℕ) (votes : List (Vote S D P G C)) (old new : Rows S D P G C) → PlacesStay old new → AreNewest old members votes → AreNewest new members votes
  places-newest members votes old new r k = record {
    members_are = r.members_stay ∙ k.members_are;
    newest = λ side i l. r.votes_stay side i ∙ k.newest side i l;
    strangers = λ side i u m e. k.strangers side i u m (sym (r.votes_stay side i) ∙ e);
  }

  -- where no vote that counts stands in the way of one, none does of those of a kind that wait, or are known to attest
  pub none-waits : (v : Vote S D P G C) (kind : Kind) (rows : Rows S D P G C) (complete : Bool) (wait sure : List (Vote S D P G C)) → KindIs kind rows complete wait sure → NoneInWay rows v → find (is_in_way v) wait ≡ None
  none-waits v kind rows complete wait sure k none = find_none-permuted (is_in_way v) (votes_of false kind rows) wait (IsPermutation-sym _ _ k.waiting_are) (none false kind)

  pub none-sure : (v : Vote S D P G C) (kind : Kind) (rows : Rows S D P G C) (complete : Bool) (wait sure : List (Vote S D P G C)) → KindIs kind rows complete wait sure → NoneInWay rows v → find (is_in_way v) sure ≡ None
  none-sure v kind rows complete wait sure k none = find_none-permuted (is_in_way v) (votes_of true kind rows) sure (IsPermutation-sym _ _ k.verified_are) (none true kind)

  -- and the other way round
  pub none-in-way : (v : Vote S D P G C) (rows : Rows S D P G C) (complete : Kind → Bool) (wait sure : Kind → List (Vote S D P G C)) → ((kind : Kind) → KindIs kind rows (complete kind) (wait kind) (sure kind))
      → ((kind : Kind) → find (is_in_way v) (wait kind) ≡ None) → ((kind : Kind) → find (is_in_way v) (sure kind) ≡ None) → NoneInWay rows v
  none-in-way v rows complete wait sure k waits known true kind = find_none-permuted (is_in_way v) (sure kind) (votes_of true kind rows) (k kind).verified_are (known kind)
  none-in-way v rows complete wait sure k waits known false kind = find_none-permuted (is_in_way v) (wait kind) (votes_of false kind rows) (k kind).waiting_are (waits kind)
