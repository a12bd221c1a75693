-- Votes of the three kinds as bytes.
use Rattle.std.specs.Prelude.{◌≡◌, ℕ, List, ◌∷◌, ◌++◌, Result, Ok, refl}
use Rattle.types_codec.specs.declared.codec.CodecError.{CodecError}
use Rattle.types_codec.specs.Codec.{IsCodec, IsChoice, TakesBehind, or_at, nothing_at, tagged_at, tagged-IsCodec, or-taken, nothing-taken}
use Rattle.messages_certificates.specs.declared.nullify.Nullify.{Nullify}
use Rattle.simplex_messages.specs.declared.vote.Vote.{Vote}
use Rattle.simplex_messages.specs.declared.vote.Vote.TheVariants as vote
use Rattle.messages_certificates.specs.ProposalVote.{Notarize, Finalize, vote_spelling, vote_fits, vote_at, vote-IsCodec}
use Rattle.messages_certificates.specs.Nullify.{nullify_spelling, nullify_fits, nullify_at, nullify-IsCodec}

-- a vote of the scheme S on payloads D, with keys P, signatures G and certificates C
module _ {S D P G C : Type 0} where
  -- the byte that a vote begins with
  unfoldable pub any_vote_tag : Vote S D P G C → ℕ
  any_vote_tag (vote.Notarize v) = 0
  any_vote_tag (vote.Nullify v) = 1
  any_vote_tag (vote.Finalize v) = 2

  -- the bytes behind the tag
  unfoldable pub any_vote_body : (D → List ℕ) → (G → List ℕ) → Vote S D P G C → List ℕ
  any_vote_body p f (vote.Notarize v) = vote_spelling p f v
  any_vote_body p f (vote.Nullify v) = nullify_spelling f v
  any_vote_body p f (vote.Finalize v) = vote_spelling p f v

  -- a vote's bytes: the tag, then what it holds
  unfoldable pub any_vote_spelling : (D → List ℕ) → (G → List ℕ) → Vote S D P G C → List ℕ
  any_vote_spelling p f v = any_vote_tag v ∷ any_vote_body p f v

  -- a vote that can be read again
  unfoldable pub any_vote_fits : (D → Type 0) → (G → Type 0) → Vote S D P G C → Type 0
  any_vote_fits Q F (vote.Notarize v) = vote_fits Q F v
  any_vote_fits Q F (vote.Nullify v) = nullify_fits F v
  any_vote_fits Q F (vote.Finalize v) = vote_fits Q F v

  -- a vote to notarize, to nullify, to finalize, as a vote
  abbrev pub as_notarize : Notarize S D P G C → Vote S D P G C
  as_notarize v = vote.Notarize v

  abbrev pub as_nullify : Nullify S D P G C → Vote S D P G C
  as_nullify v = vote.Nullify v

  abbrev pub as_finalize : Finalize S D P G C → Vote S D P G C
  as_finalize v = vote.Finalize v

  -- what stands behind a tag
  unfoldable pub any_vote_behind : (List ℕ → Result (D × List ℕ) CodecError) → (List ℕ → Result (G × List ℕ) CodecError) → ℕ
      → List ℕ → Result (Vote S D P G C × List ℕ) CodecError
  any_vote_behind q r = or_at 0 as_notarize (vote_at q r) (or_at 1 as_nullify (nullify_at r) (or_at 2 as_finalize (vote_at q r) (λ _. nothing_at)))

  -- the vote at the front: a tag, then what stands behind it
  unfoldable pub any_vote_at : (List ℕ → Result (D × List ℕ) CodecError) → (List ℕ → Result (G × List ℕ) CodecError) → List ℕ
      → Result (Vote S D P G C × List ℕ) CodecError
  any_vote_at q r = tagged_at (any_vote_behind q r)

  -- behind each tag one form is read, exactly where its bytes stand
  any_vote-IsChoice : {Q : D → Type 0} {p : D → List ℕ} {q : List ℕ → Result (D × List ℕ) CodecError} {F : G → Type 0} {f : G → List ℕ} {r : List ℕ → Result (G × List ℕ) CodecError}
      → IsCodec Q p q → IsCodec F f r → IsChoice (any_vote_fits Q F) any_vote_tag (any_vote_body p f) (any_vote_behind q r)
  unfolding any_vote_fits any_vote_tag any_vote_body any_vote_behind
  any_vote-IsChoice {Q} {p} {q} {F} {f} {r} c d = record { takes = forms.taken; again = again }
    where
      forms : TakesBehind (any_vote_fits Q F) any_vote_tag (any_vote_body p f) (any_vote_behind q r)
      forms = or-taken 0 as_notarize (vote-IsCodec c d) (λ v h. (refl, refl, h))
          (or-taken 1 as_nullify (nullify-IsCodec d) (λ v h. (refl, refl, h))
          (or-taken 2 as_finalize (vote-IsCodec c d) (λ v h. (refl, refl, h)) nothing-taken))

      again : (x : Vote S D P G C) (rest : List ℕ) → any_vote_fits Q F x → any_vote_behind q r (any_vote_tag x) (any_vote_body p f x ++ rest) ≡ Ok (x, rest)
      again (vote.Notarize v) rest fits = rw ((vote-IsCodec c d).again v rest fits) refl
      again (vote.Nullify v) rest fits = rw ((nullify-IsCodec d).again v rest fits) refl
      again (vote.Finalize v) rest fits = rw ((vote-IsCodec c d).again v rest fits) refl

  -- a vote is read exactly where its bytes stand
  pub any_vote-IsCodec : {Q : D → Type 0} {p : D → List ℕ} {q : List ℕ → Result (D × List ℕ) CodecError} {F : G → Type 0} {f : G → List ℕ} {r : List ℕ → Result (G × List ℕ) CodecError}
      → IsCodec Q p q → IsCodec F f r → IsCodec (any_vote_fits Q F) (any_vote_spelling p f) (any_vote_at q r)
  unfolding any_vote_spelling any_vote_at
  any_vote-IsCodec p r = tagged-IsCodec (any_vote-IsChoice p r)
