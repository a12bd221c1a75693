-- What is taken of what is held, and refused there, in the words of what is left of an input.
use Rattle.std.proofs.Common.{◌≡◌, ◌≢◌, ℕ, ◌+◌, ◌≤◌, List, [], drop, length, arith, Option, None, Some, IfSome, sym, ap, ◌∙◌, subst, inl, inr}
use Rattle.std.specs.Prelude.{Result, Err}
use Rattle.std.proofs.lemmas.List.{drop_all, length-drop}
use Rattle.std.specs.Io.KnownBytes.{Keeps, IsAtEnd, prepend_known}
use Rattle.std.proofs.KnownBytes.{prepend_known-read}
use Rattle.types_codec.specs.declared.codec.CodecError.{CodecError}
use Rattle.types_codec.specs.declared.codec.CodecError.TheVariants.{End}
use Rattle.simplex_member.specs.declared.fault.IoFault.{IoFault}
use Rattle.simplex_member.specs.declared.fault.IoFault.TheVariants as fault
use Rattle.node_wire.specs.Event.{EventValue, event_at, event_spelling}
use Rattle.node_wire.specs.Stream.{HasNone, InputState, IsBarred, IsFault, IsTaken, left_of}

-- what is taken of what is held is taken of what is left
pub taken_over : {D : Type 0} {F : D → Type 0} {p : D → List ℕ} (e : EventValue D) (old mid new : InputState) (a r : Option (List ℕ)) → mid.place ≡ old.place → mid.taken ≡ old.taken
    → Keeps (left_of old a) (left_of mid r) → IsTaken F p e mid (Some mid.held) new (Some new.held) → IsTaken F p e old (left_of old a) new (left_of new r)
taken_over {D} {F} {p} e old mid new a r place taken kept t = record {
  event = t.event;
  bytes = (prepend_known-read (left_of old a) r mid.held new.held (event_spelling p e) ⊥ kept t.bytes (λ x. absurd x)).0;
  place = t.place ∙ ap (λ (n : ℕ). n + length (event_spelling p e)) place;
  taken = t.taken ∙ ap (λ (n : ℕ). n + 1) taken;
}

module _ {D : Type 0} (q : List ℕ → Result (D × List ℕ) CodecError) where
  -- what is refused for what it is isn't empty
  barred_some : (held : List ℕ) → IsBarred (event_at q held) → held ≢ []
  unfolding event_at
  barred_some held barred none = let P : List ℕ → Type 0 = λ bytes. IsBarred (event_at q bytes) in subst P none barred

  -- what is held is refused: so is what is left
  pub barred_left : (a r : Option (List ℕ)) (held : List ℕ) → Keeps a (prepend_known held r) → IsBarred (event_at q held) → IfSome a (HasNone q)
  barred_left None r held kept barred = tt
  barred_left (Some xs) None held kept barred = absurd kept
  barred_left (Some xs) (Some ys) held kept barred = record { front = held; more = ys; some = barred_some held barred; whole = sym kept; refused = inl barred }

  -- what is held ends inside an event, and the reader has ended
  pub cut_left : (a r : Option (List ℕ)) (held : List ℕ) → Keeps a (prepend_known held r) → IsAtEnd r → held ≢ [] → event_at q held ≡ Err End → IfSome a (HasNone q)
  cut_left None r held kept end some cut = tt
  cut_left (Some xs) None held kept end some cut = absurd kept
  cut_left (Some xs) (Some ys) held kept end some cut = record { front = held; more = ys; some = some; whole = sym kept; refused = inr (cut, end) }

-- the same fault at the same place, for reasons that follow
pub fault_over : (f : IoFault) (old new : ℕ) (X Y A B : Type 0) → old ≡ new → (X → Y) → (A → B) → IsFault old X A f → IsFault new Y B f
fault_over fault.Read old new X Y A B same up turn h = up h
fault_over fault.Write old new X Y A B same up turn h = h
fault_over (fault.BadEvent at) old new X Y A B same up turn h = (h.0 ∙ same, turn h.1)
fault_over (fault.Node x) old new X Y A B same up turn h = h
fault_over fault.Memory old new X Y A B same up turn h = tt

-- where all is taken nothing is held
pub none_held : (start : ℕ) (items : List ℕ) → start ≡ length items → drop start items ≡ []
none_held start items same = drop_all start items (omega (arith, same))

-- and all is taken where nothing is held
pub all_are_taken : (start : ℕ) (items : List ℕ) → start ≤ length items → drop start items ≡ [] → start ≡ length items
all_are_taken start items within none = omega (arith, within, length-drop start items, ap (λ (xs : List ℕ). length xs) none)
