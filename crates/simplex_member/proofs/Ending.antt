-- Acts end: there are no more of them than there are things to do.
use Rattle.std.proofs.Common.{◌≡◌, inl, inr, ⊎_elim, ℕ, zero, suc, ◌+◌, ◌*◌, ◌/◌, ◌^◌, ◌≤◌, ◌<◌, List, [], ◌∷◌, ◌++◌, length, map, Option, Some, None, refl, ◌∙◌, ap, subst, length-append, arith}
use Rattle.std.specs.Prelude.{All, IfSome, true, ⊤}
use Rattle.std.proofs.lemmas.Bool.{cases_lt}
use Rattle.std.proofs.lemmas.List.{length-map}
use Rattle.std.proofs.lemmas.List.Elements.{All-head, All-tail}
use Rattle.std.proofs.Math.Nat.{mul-suc, suc-mul}
use Rattle.types_core.specs.declared.scheme.Scheme.{Ghosts}
use Rattle.types_terms.specs.declared.kind.Kind.TheVariants as kinds
use Rattle.simplex_resolver.specs.declared.ask.Ask.{Ask}
use Rattle.simplex_resolver.specs.declared.ask.Kind as repair
use Rattle.simplex_resolver.specs.declared.ask.Kind.TheVariants as repair_kind
use Rattle.simplex_resolver.specs.declared.ask.Until as until
use Rattle.simplex_resolver.specs.declared.ask.Until.TheVariants as until_kind
use Rattle.simplex_member.specs.Allowed.{Allowed, AreAllowed}
use Rattle.simplex_member.specs.Asked.{next_number}
use Rattle.simplex_member.specs.Doing.{Doing, IsAmong, Once, doing, doings, most_acts, of_view, numbers, returns, seeks, resolves, takes_in, leads, forwards, makes, judges, latches, polls, repeats, votes, certifies, puts_off}
use Rattle.simplex_member.specs.Laws.{RoundLaws}
use Rattle.simplex_member.specs.Member.{Goes}
use Rattle.simplex_member.specs.Packet.{Formats}
use Rattle.simplex_member.specs.Point.{Point, Opened, Found, Began, Told, Heard, Came, Wanted, Built, Checked, Judged, AsksBuild, AsksVerify, GivesBack, LeavesBehind, Resolves, Rewrote, AreActs, History, is_act}
use Rattle.simplex_member.specs.Setup.{Setup}
use Rattle.simplex_member.proofs.Lacking.{missing-below}
use Rattle.simplex_member.proofs.Once.{done-once, standing-below}
use Rattle.simplex_member.proofs.Pigeons.{In, each, each-length, in-each, in-left, in-map, in-right, no-more, numbers-below, numbers-below-length, in-numbers-below}
use Rattle.simplex_member.proofs.Raising.{acts-head, acts-rest}
use Rattle.simplex_member.proofs.Telling.{apart}

-- ---- all that can be done

onces : List Once
onces = leads ∷ forwards ∷ makes kinds.Notarization ∷ makes kinds.Nullification ∷ makes kinds.Finalization
    ∷ judges kinds.Notarization ∷ judges kinds.Nullification ∷ judges kinds.Finalization
    ∷ latches ∷ polls ∷ repeats ∷ votes kinds.Notarization ∷ votes kinds.Nullification ∷ votes kinds.Finalization ∷ certifies ∷ puts_off ∷ []

onces-length : length onces ≡ 16
unfolding onces
onces-length = refl

in-onces : (o : Once) → In onces o
unfolding onces
in-onces leads = inl refl
in-onces forwards = inr (inl refl)
in-onces (makes kinds.Notarization) = inr (inr (inl refl))
in-onces (makes kinds.Nullification) = inr (inr (inr (inl refl)))
in-onces (makes kinds.Finalization) = inr (inr (inr (inr (inl refl))))
in-onces (judges kinds.Notarization) = inr (inr (inr (inr (inr (inl refl)))))
in-onces (judges kinds.Nullification) = inr (inr (inr (inr (inr (inr (inl refl))))))
in-onces (judges kinds.Finalization) = inr (inr (inr (inr (inr (inr (inr (inl refl)))))))
in-onces latches = inr (inr (inr (inr (inr (inr (inr (inr (inl refl))))))))
in-onces polls = inr (inr (inr (inr (inr (inr (inr (inr (inr (inl refl)))))))))
in-onces repeats = inr (inr (inr (inr (inr (inr (inr (inr (inr (inr (inl refl))))))))))
in-onces (votes kinds.Notarization) = inr (inr (inr (inr (inr (inr (inr (inr (inr (inr (inr (inl refl)))))))))))
in-onces (votes kinds.Nullification) = inr (inr (inr (inr (inr (inr (inr (inr (inr (inr (inr (inr (inl refl))))))))))))
in-onces (votes kinds.Finalization) = inr (inr (inr (inr (inr (inr (inr (inr (inr (inr (inr (inr (inr (inl refl)))))))))))))
in-onces certifies = inr (inr (inr (inr (inr (inr (inr (inr (inr (inr (inr (inr (inr (inr (inl refl))))))))))))))
in-onces puts_off = inr (inr (inr (inr (inr (inr (inr (inr (inr (inr (inr (inr (inr (inr (inr (inl refl)))))))))))))))

asks : List Ask
asks = record { kind = repair_kind.Nullification; until = until_kind.Floor } ∷ record { kind = repair_kind.Nullification; until = until_kind.Finalization }
    ∷ record { kind = repair_kind.Notarization; until = until_kind.Floor } ∷ record { kind = repair_kind.Notarization; until = until_kind.Finalization } ∷ []

asks-length : length asks ≡ 4
unfolding asks
asks-length = refl

in-asks : (k : repair.Kind) (u : until.Until) → In asks (record { kind = k; until = u })
unfolding asks
in-asks repair_kind.Nullification until_kind.Floor = inl refl
in-asks repair_kind.Nullification until_kind.Finalization = inr (inl refl)
in-asks repair_kind.Notarization until_kind.Floor = inr (inr (inl refl))
in-asks repair_kind.Notarization until_kind.Finalization = inr (inr (inr (inl refl)))

-- of all members, or of one
askable : ℕ → List (Option ℕ)
askable m = None ∷ map (λ i. Some i) (numbers-below m)

askable-length : (m : ℕ) → length (askable m) ≡ m + 1
unfolding askable
askable-length m = let here = length-map (numbers-below m) (λ i. Some i) in let below = numbers-below-length m in omega (arith, here, below)

in-askable : (m : ℕ) (to : Option ℕ) → IfSome to (λ i. i < m) → In (askable m) to
unfolding askable
in-askable m None low = inl refl
in-askable m (Some i) low = inr (in-map (λ j. Some j) (numbers-below m) i (in-numbers-below m i low))

abbrev Address : Type 0
Address = Option ℕ × ℕ

abbrev address : Option ℕ → ℕ → Address
address to view = (to, view)

abbrev sought : Ask → Address → Doing
sought ask to = seeks to.1 ask to.0

addressed : ℕ → ℕ → List Address
addressed n m = each address (askable m) (numbers-below n)

addressed-length : (n m : ℕ) → length (addressed n m) ≡ (m + 1) * n
unfolding addressed
addressed-length n m = each-length address (askable m) (numbers-below n) ∙ (ap (λ (k : ℕ). k * length (numbers-below n)) (askable-length m) ∙ ap (λ (k : ℕ). (m + 1) * k) (numbers-below-length n))

in-addressed : (n m : ℕ) (to : Option ℕ) (v : ℕ) → IfSome to (λ i. i < m) → v < n → In (addressed n m) (address to v)
unfolding addressed
in-addressed n m to v one low = in-each address (askable m) (numbers-below n) to v (in-askable m to one) (in-numbers-below n v low)

-- of each view each earlier one
earlier : ℕ → List Doing
earlier zero = []
earlier (suc n) = map (resolves n) (numbers-below n) ++ earlier n

triangle : (n l : ℕ) → 2 * l + n ≡ n * n → 2 * (n + l) + suc n ≡ suc n * suc n
triangle n l e = let one = suc-mul n (suc n) in let two = mul-suc n n in omega (arith, e, one, two)

earlier-length : (n : ℕ) → 2 * length (earlier n) + n ≡ n * n
unfolding earlier
earlier-length zero = omega arith
earlier-length (suc n) =
    let here = length-append (map (resolves n) (numbers-below n)) (earlier n) in
    let these = length-map (numbers-below n) (resolves n) in
    let below = numbers-below-length n in
    let size : length (map (resolves n) (numbers-below n) ++ earlier n) ≡ n + length (earlier n) = omega (arith, here, these, below) in
    let square = triangle n (length (earlier n)) (earlier-length n) in
    omega (arith, size, square)

in-earlier : (n view u : ℕ) → view < n → u < view → In (earlier n) (resolves view u)
unfolding earlier
in-earlier zero view u low below = absurd (omega (arith, low))
in-earlier (suc n) view u low below = ⊎_elim
    (λ less. in-right (map (resolves n) (numbers-below n)) (earlier n) (resolves view u) (in-earlier n view u less below))
    (λ more.
    let same : n ≡ view = omega (arith, low, more) in
    in-left (map (resolves n) (numbers-below n)) (earlier n) (resolves view u) (subst (λ (v : ℕ). In (map (resolves n) (numbers-below n)) (resolves v u)) same (in-map (resolves n) (numbers-below n) u (in-numbers-below n u (omega (arith, below, same))))))
    (cases_lt view n)

every : ℕ → ℕ → ℕ → List Doing
every n m most = each of_view onces (numbers-below n) ++ (each sought asks (addressed n m) ++ (earlier n ++ (map numbers (numbers-below most) ++ map returns (numbers-below most))))

every-length : (n m most : ℕ) → length (every n m most) ≡ 16 * n + (4 * ((m + 1) * n) + (length (earlier n) + (most + most)))
unfolding every
every-length n m most =
    let views = each-length of_view onces (numbers-below n) ∙ (ap (λ (k : ℕ). k * length (numbers-below n)) onces-length ∙ ap (λ (k : ℕ). 16 * k) (numbers-below-length n)) in
    let asked = each-length sought asks (addressed n m) ∙ (ap (λ (k : ℕ). k * length (addressed n m)) asks-length ∙ ap (λ (k : ℕ). 4 * k) (addressed-length n m)) in
    let numbered = length-map (numbers-below most) numbers ∙ numbers-below-length most in
    let returned = length-map (numbers-below most) returns ∙ numbers-below-length most in
    summed (each of_view onces (numbers-below n)) (each sought asks (addressed n m)) (earlier n) (map numbers (numbers-below most)) (map returns (numbers-below most))
    (16 * n) (4 * ((m + 1) * n)) (length (earlier n)) most most views asked refl numbered returned
  where
    summed : (a b c d e : List Doing) (i j k l o : ℕ) → length a ≡ i → length b ≡ j → length c ≡ k → length d ≡ l → length e ≡ o → length (a ++ (b ++ (c ++ (d ++ e)))) ≡ i + (j + (k + (l + o)))
    summed a b c d e i j k l o is_a is_b is_c is_d is_e =
        omega (arith, length-append a (b ++ (c ++ (d ++ e))), length-append b (c ++ (d ++ e)), length-append c (d ++ e), length-append d e, is_a, is_b, is_c, is_d, is_e)

-- numbers lie below a most one, and what a view lacks is earlier
abbrev IsNumbered : ℕ → Doing → Type 0
IsNumbered most (numbers number) = number < most
IsNumbered most (returns number) = number < most
IsNumbered most (resolves view u) = u < view
IsNumbered most takes_in = ⊥
IsNumbered most d = ⊤

in-every : (n m most : ℕ) (d : Doing) → IsAmong n m d → IsNumbered most d → In (every n m most) d
unfolding every
in-every n m most (of_view o view) among numbered = in-left (each of_view onces (numbers-below n)) _ (of_view o view) (in-each of_view onces (numbers-below n) o view (in-onces o) (in-numbers-below n view among))
in-every n m most (seeks view ask to) among numbered =
    in-right (each of_view onces (numbers-below n)) _ (seeks view ask to) (in-left (each sought asks (addressed n m)) _ (seeks view ask to)
    (in-each sought asks (addressed n m) ask (address to view) (in-asks ask.kind ask.until) (in-addressed n m to view among.1 among.0)))
in-every n m most (resolves view u) among numbered =
    in-right (each of_view onces (numbers-below n)) _ (resolves view u) (in-right (each sought asks (addressed n m)) _ (resolves view u) (in-left (earlier n) _ (resolves view u)
    (in-earlier n view u among numbered)))
in-every n m most (numbers number) among numbered =
    in-right (each of_view onces (numbers-below n)) _ (numbers number) (in-right (each sought asks (addressed n m)) _ (numbers number) (in-right (earlier n) _ (numbers number)
    (in-left (map numbers (numbers-below most)) _ (numbers number) (in-map numbers (numbers-below most) number (in-numbers-below most number numbered)))))
in-every n m most (returns number) among numbered =
    in-right (each of_view onces (numbers-below n)) _ (returns number) (in-right (each sought asks (addressed n m)) _ (returns number) (in-right (earlier n) _ (returns number)
    (in-right (map numbers (numbers-below most)) _ (returns number) (in-map returns (numbers-below most) number (in-numbers-below most number numbered)))))
in-every n m most takes_in among numbered = absurd numbered

-- so many, added up
bounded : (points all most_of lower k addresses square most : ℕ) → all ≤ most_of → most_of ≡ 16 * k + (4 * addresses + (lower + (most + most))) → all ≡ points → 2 * lower + k ≡ square
    → points ≤ 16 * k + 4 * addresses + square / 2 + 2 * most
bounded points all most_of lower k addresses square most few size count half = omega (arith, few, size, count, half)

all-in : {X : Type 0} (P : X → Type 0) (xs : List X) → All P xs → (x : X) → In xs x → P x
all-in P [] all x here = absurd here
all-in P (y ∷ xs) all x here = ⊎_elim (λ is. subst P is (All-head P y xs all)) (λ later. all-in P xs (All-tail P y xs all) x later) here

module _ {S D P G C : Type 0} (g : Ghosts S D P G C) (f : Formats S D P G C) (s : Setup S D C) where
  -- numbers have 64 bits
  next-small : (h : History S D P G C) → AreAllowed g f s h → next_number h < 2 ^ 64
  next-small [] all = omega arith
  next-small (AsksBuild number handoff context ∷ h) all = let left = all.0.due.left in omega (arith, left)
  next-small (AsksVerify number context p ∷ h) all = let left = all.0.due.left in omega (arith, left)
  next-small (p ∷ h) all = next-small h all.1

  module _ (laws : RoundLaws g f.same) (some : 0 < g.size s.voter.scheme) (retries : 0 < s.voter.timeout_retry) where
    act-numbered : (p : Point S D P G C) (h : History S D P G C) → AreAllowed g f s h → Allowed g f s h p → is_act p ≡ true → IsNumbered (2 ^ 64) (doing s h p)
    act-numbered (Opened now) h all a own = absurd (apart own)
    act-numbered (Found x taken) h all a own = absurd (apart own)
    act-numbered Began h all a own = absurd (apart own)
    act-numbered (Told now) h all a own = absurd (apart own)
    act-numbered (Heard v) h all a own = absurd (apart own)
    act-numbered (Came c) h all a own = absurd (apart own)
    act-numbered (Wanted member view) h all a own = absurd (apart own)
    act-numbered (Built number handoff context payload took) h all a own = absurd (apart own)
    act-numbered (Checked number view answer outcome) h all a own = absurd (apart own)
    act-numbered (Judged r ok) h all a own = absurd (apart own)
    act-numbered (Rewrote c) h all a own = absurd (apart own)
    act-numbered (AsksBuild number handoff context) h all a own = let left = a.due.left in let next = a.due.next in omega (arith, left, next)
    act-numbered (AsksVerify number context p) h all a own = let left = a.due.left in let next = a.due.next in omega (arith, left, next)
    act-numbered (GivesBack number view) h all a own =
        let low = standing-below g f s laws some retries h all number (a.due.0, a.due.1) a.due.2 in
        let small = next-small h all in
        omega (arith, low, small)
    act-numbered (LeavesBehind number) h all a own =
        let low = standing-below g f s laws some retries h all number (a.due.0, a.due.1) a.due.2 in
        let small = next-small h all in
        omega (arith, low, small)
    act-numbered (Resolves view kind u) h all a own = missing-below s h view kind u a.due.missing
    act-numbered p h all a own = tt

    all-numbered : (h : History S D P G C) → AreAllowed g f s h → (points : List (Point S D P G C)) (end : History S D P G C) → Goes g f s h points end → AreActs points → (d : Doing) → In (doings s h points) d → IsNumbered (2 ^ 64) d
    all-numbered h all [] end goes acts d here = absurd here
    all-numbered h all (p ∷ points) end goes acts d here = ⊎_elim
        (λ is. subst (λ (x : Doing). IsNumbered (2 ^ 64) x) is (act-numbered p h all goes.0 (acts-head g f s p points acts)))
        (λ later. all-numbered (p ∷ h) (goes.0, all) points end goes.1 (acts-rest g f s p points acts) d later)
        here

    doings-length : (h : History S D P G C) (points : List (Point S D P G C)) → length (doings s h points) ≡ length points
    doings-length h [] = refl
    doings-length h (p ∷ points) = let rest = doings-length (p ∷ h) points in omega (arith, rest)

    pub acts-end : (h : History S D P G C) → AreAllowed g f s h → (points : List (Point S D P G C)) (end : History S D P G C) (n m : ℕ) → Goes g f s h points end → AreActs points → All (IsAmong n m) (doings s h points)
        → length points ≤ most_acts n m
    acts-end h all points end n m goes acts among = within (2 ^ 64) (λ d here. all-numbered h all points end goes acts d here)
      where
        within : (most : ℕ) → ((d : Doing) → In (doings s h points) d → IsNumbered most d) → length points ≤ 16 * n + 4 * ((m + 1) * n) + n * n / 2 + 2 * most
        within most numbered =
            let few = no-more (doings s h points) (every n m most) (done-once g f s laws some retries h all points end goes acts)
            (λ d here. in-every n m most d (all-in (IsAmong n m) (doings s h points) among d here) (numbered d here)) in
            let size = every-length n m most in
            let count = doings-length h points in
            let half = earlier-length n in
            bounded (length points) (length (doings s h points)) (length (every n m most)) (length (earlier n)) n ((m + 1) * n) (n * n) most few size count half
