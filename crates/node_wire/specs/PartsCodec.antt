-- One spelling for each part of an event or a reply.
use Rattle.std.specs.Prelude.{◌≡◌, ℕ, zero, suc, ◌≤◌, Bool, true, false, List, [], ◌∷◌, ◌++◌, length, nat_lt, All, Option, Some, None, Result, Ok, Err, refl, ⊤}
use Rattle.std.specs.List.{flat_map}
use Rattle.std.proofs.Common.{sym, ap, ◌∙◌, subst, append_assoc, arith, cond}
use Rattle.std.proofs.lemmas.Bool.{ltb-false, le-ltb}
use Rattle.std.proofs.lemmas.List.Concat.{flat_map-cons}
use Rattle.std.proofs.lemmas.List.Elements.{All-nil, All-cons, All-head, All-tail}
use Rattle.types_codec.specs.declared.codec.CodecError.{CodecError}
use Rattle.types_codec.specs.declared.codec.CodecError.TheVariants.{TooLong}
use Rattle.types_codec.specs.Codec.{◌>>=◌, IsCodec, TakesBehind, bytes_at, bytes-IsCodec, bind_ok, refused_ok, ok_is, nothing_at, or_at, or-taken, nothing-taken, tagged-IsCodec}
use Rattle.types_codec.specs.Varint.{varint, varint_at, varint-IsCodec, max_u64}
use Rattle.simplex_member.specs.declared.event.Channel.{Channel}
use Rattle.simplex_member.specs.declared.event.Channel.TheVariants as channel
use Rattle.node_wire.specs.Parts.{alone_at, channel_byte, channel_at, answer_byte, answer_at, counted_spelling, counted_at, optional_tag, optional_body, optional_spelling, optional_fits, optional_at, listed_spelling, several_at, listed_at}

-- what is said by a tag alone has no bytes
pub alone-IsCodec : IsCodec (λ _. ⊤) (λ _. []) alone_at
alone-IsCodec = record {
  takes = λ bytes x rest e. (ap (λ (q : ⊤ × List ℕ). q.1) (ok_is (tt, bytes) (x, rest) e), tt);
  again = λ x rest h. refl;
}

-- each channel has one spelling
pub channel-IsCodec : IsCodec (λ _. ⊤) (λ c. channel_byte c ∷ []) channel_at
unfolding channel_at
channel-IsCodec = tagged-IsCodec (record { takes = forms.taken; again = again })
  where
    behind : ℕ → List ℕ → Result (Channel × List ℕ) CodecError
    behind = or_at 0 (λ _. channel.Votes) alone_at (or_at 1 (λ _. channel.Certificates) alone_at (or_at 2 (λ _. channel.Fetches) alone_at (λ _. nothing_at)))

    forms : TakesBehind (λ _. ⊤) channel_byte (λ _. []) behind
    forms = or-taken 0 (λ _. channel.Votes) alone-IsCodec (λ x h. (refl, refl, tt)) (or-taken 1 (λ _. channel.Certificates) alone-IsCodec (λ x h. (refl, refl, tt)) (or-taken 2 (λ _. channel.Fetches) alone-IsCodec (λ x h. (refl, refl, tt)) nothing-taken))

    again : (x : Channel) (rest : List ℕ) → ⊤ → behind (channel_byte x) ([] ++ rest) ≡ Ok (x, rest)
    again channel.Votes rest h = refl
    again channel.Certificates rest h = refl
    again channel.Fetches rest h = refl

-- each answer has one spelling
pub answer-IsCodec : IsCodec (λ _. ⊤) (λ a. answer_byte a ∷ []) answer_at
unfolding answer_at
answer-IsCodec = tagged-IsCodec (record { takes = forms.taken; again = again })
  where
    behind : ℕ → List ℕ → Result (Option Bool × List ℕ) CodecError
    behind = or_at 0 (λ _. Some false) alone_at (or_at 1 (λ _. Some true) alone_at (or_at 2 (λ _. None) alone_at (λ _. nothing_at)))

    forms : TakesBehind (λ _. ⊤) answer_byte (λ _. []) behind
    forms = or-taken 0 (λ _. Some false) alone-IsCodec (λ x h. (refl, refl, tt)) (or-taken 1 (λ _. Some true) alone-IsCodec (λ x h. (refl, refl, tt)) (or-taken 2 (λ _. None) alone-IsCodec (λ x h. (refl, refl, tt)) nothing-taken))

    again : (x : Option Bool) (rest : List ℕ) → ⊤ → behind (answer_byte x) ([] ++ rest) ≡ Ok (x, rest)
    again (Some false) rest h = refl
    again (Some true) rest h = refl
    again None rest h = refl

-- bytes behind their count have one spelling
pub counted-IsCodec : (most : ℕ) → most ≤ max_u64 → IsCodec (λ xs. length xs ≤ most) counted_spelling (counted_at most)
unfolding counted_at
counted-IsCodec most small = record {
  takes = λ bytes x rest e.
      let a = bind_ok (varint_at max_u64 bytes) (λ count. cond (nat_lt most count.0) (Err TooLong) (bytes_at count.0 count.1)) (x, rest) e in
      let g = refused_ok (nat_lt most a.0.0) TooLong (bytes_at a.0.0 a.0.1) (x, rest) a.2 in
      let first = (varint-IsCodec max_u64).takes bytes a.0.0 a.0.1 a.1 in
      let second = (bytes-IsCodec a.0.0).takes a.0.1 x rest g.1 in
      let few : a.0.0 ≤ most = ltb-false _ _ g.0 in
      let whole : bytes ≡ (varint (length x) ++ x) ++ rest = first.0 ∙ ap (λ (k : ℕ). varint k ++ a.0.1) (sym second.1) ∙ ap (λ (t : List ℕ). varint (length x) ++ t) second.0 ∙ sym (append_assoc (varint (length x)) x rest) in
      (whole, omega (arith, second.1, few));
  again = λ x rest fits.
      let few : nat_lt most (length x) ≡ false = le-ltb _ _ fits in
      ap (counted_at most) (append_assoc (varint (length x)) x rest)
      ∙ rw ((varint-IsCodec max_u64).again (length x) (x ++ rest) (omega (arith, fits, small)), few) ((bytes-IsCodec (length x)).again x rest refl);
}

module _ {A : Type 0} {F : A → Type 0} {f : A → List ℕ} {r : List ℕ → Result (A × List ℕ) CodecError} where
  -- a value or none has one spelling where each value has
  pub optional-IsCodec : IsCodec F f r → IsCodec (optional_fits F) (optional_spelling f) (optional_at r)
  unfolding optional_at
  optional-IsCodec c = tagged-IsCodec (record { takes = forms.taken; again = again })
    where
      behind : ℕ → List ℕ → Result (Option A × List ℕ) CodecError
      behind = or_at 0 (λ _. None) alone_at (or_at 1 (λ x. Some x) r (λ _. nothing_at))

      forms : TakesBehind (optional_fits F) optional_tag (optional_body f) behind
      forms = or-taken 0 (λ _. None) alone-IsCodec (λ x h. (refl, refl, tt)) (or-taken 1 (λ x. Some x) c (λ x h. (refl, refl, h)) nothing-taken)

      again : (x : Option A) (rest : List ℕ) → optional_fits F x → behind (optional_tag x) (optional_body f x ++ rest) ≡ Ok (x, rest)
      again None rest h = refl
      again (Some x) rest h = rw (c.again x rest h) refl

  several_takes : IsCodec F f r → (k : ℕ) (bytes : List ℕ) (x : List A) (rest : List ℕ) → several_at r k bytes ≡ Ok (x, rest) → (bytes ≡ flat_map f x ++ rest) × All F x × (length x ≡ k)
  unfolding several_at
  several_takes c zero bytes x rest e =
      subst (λ (y : List A × List ℕ). (bytes ≡ flat_map f y.0 ++ y.1) × All F y.0 × (length y.0 ≡ 0)) (ok_is ([], bytes) (x, rest) e) (refl, All-nil F, refl)
  several_takes c (suc k) bytes x rest e =
      let a = bind_ok (r bytes) (λ first. several_at r k first.1 >>= λ others. Ok (first.0 ∷ others.0, others.1)) (x, rest) e in
      let b = bind_ok (several_at r k a.0.1) (λ others. Ok (a.0.0 ∷ others.0, others.1)) (x, rest) a.2 in
      let d = ok_is (a.0.0 ∷ b.0.0, b.0.1) (x, rest) b.2 in
      let first = c.takes bytes a.0.0 a.0.1 a.1 in
      let second = several_takes c k a.0.1 b.0.0 b.0.1 b.1 in
      let whole : bytes ≡ flat_map f (a.0.0 ∷ b.0.0) ++ b.0.1 = first.0 ∙ ap (λ (t : List ℕ). f a.0.0 ++ t) second.0 ∙ sym (ap (λ (t : List ℕ). t ++ b.0.1) (flat_map-cons f a.0.0 b.0.0) ∙ append_assoc (f a.0.0) (flat_map f b.0.0) b.0.1) in
      subst (λ (y : List A × List ℕ). (bytes ≡ flat_map f y.0 ++ y.1) × All F y.0 × (length y.0 ≡ suc k)) d (whole, All-cons F a.0.0 b.0.0 first.1 second.1, ap suc second.2)

  several_again : IsCodec F f r → (x : List A) (rest : List ℕ) → All F x → several_at r (length x) (flat_map f x ++ rest) ≡ Ok (x, rest)
  unfolding several_at
  several_again c [] rest fits = refl
  several_again c (a ∷ x) rest fits =
      let regrouped : flat_map f (a ∷ x) ++ rest ≡ f a ++ (flat_map f x ++ rest) = ap (λ (t : List ℕ). t ++ rest) (flat_map-cons f a x) ∙ append_assoc (f a) (flat_map f x) rest in
      ap (several_at r (suc (length x))) regrouped ∙ rw (c.again a (flat_map f x ++ rest) (All-head F a x fits), several_again c x rest (All-tail F a x fits)) refl

  -- a list behind its count has one spelling where each value has
  pub listed-IsCodec : IsCodec F f r → IsCodec (λ xs. All F xs × (length xs ≤ max_u64)) (listed_spelling f) (listed_at r)
  unfolding listed_at
  listed-IsCodec c = record {
    takes = λ bytes x rest e.
        let a = bind_ok (varint_at max_u64 bytes) (λ count. several_at r count.0 count.1) (x, rest) e in
        let first = (varint-IsCodec max_u64).takes bytes a.0.0 a.0.1 a.1 in
        let second = several_takes c a.0.0 a.0.1 x rest a.2 in
        let whole : bytes ≡ (varint (length x) ++ flat_map f x) ++ rest = first.0 ∙ ap (λ (k : ℕ). varint k ++ a.0.1) (sym second.2) ∙ ap (λ (t : List ℕ). varint (length x) ++ t) second.0 ∙ sym (append_assoc (varint (length x)) (flat_map f x) rest) in
        (whole, (second.1, omega (arith, second.2, first.1)));
    again = λ x rest fits.
        ap (listed_at r) (append_assoc (varint (length x)) (flat_map f x) rest)
        ∙ rw ((varint-IsCodec max_u64).again (length x) (flat_map f x ++ rest) fits.1) (several_again c x rest fits.0);
  }
