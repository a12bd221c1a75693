-- What a certificate certifies, and chains of finalizations, one certificate after another.
use Rattle.std.proofs.Common.{◌≡◌, ◌⊎◌, ◌<◌, ◌≤◌, ◌-◌, ◌+◌, ℕ, List, [], ◌∷◌, ◌++◌, length, length-append, Option, Some, ap, refl, sym, subst, inl, inr, arith}
use Rattle.std.specs.Prelude.{OnOk, Result, Ok, Err}
use Rattle.types_codec.specs.declared.codec.CodecError.{CodecError}
use Rattle.types_codec.specs.declared.codec.CodecError.TheVariants.{End, Invalid, TooLong, Memory}
use Rattle.types_codec.specs.Codec.{Gives, IsCodec}
use Rattle.types_core.specs.declared.proposal.Proposal.{Proposal}
use Rattle.messages_certificates.specs.declared.certificate.Certificate.{Certificate}
use Rattle.messages_certificates.specs.Certificate.{any_certificate_spelling, certificate_statement}
use Rattle.cli_settings.specs.declared.setting.Committee.{Committee}
use Rattle.cli_light.specs.declared.certifying.Certified.{Certified}
use Rattle.cli_light.specs.declared.certifying.Certified.TheVariants as certified
use Rattle.cli_light.specs.declared.certifying.Uncertified.{Uncertified}
use Rattle.cli_light.specs.declared.certifying.Uncertified.TheVariants as uncertified
use Rattle.cli_light.specs.Certifying.{Answers, Fails, PlainCertificate, Reads, plain_certificate_at, statement_of}
use Rattle.cli_light.specs.Chain.{Breaks, FailsFinal, Follows, IsBroken, IsChain, MakesFinal, last_view}

-- a certificate that was read, and is none of these members
pub answers_of : (c : Committee) (bytes : List ℕ) (it : PlainCertificate) (why : Uncertified) → Reads c bytes it → Fails c it why → Answers c bytes why
answers_of c bytes it (uncertified.Unread why) reads fails = inl fails
answers_of c bytes it uncertified.OtherEpoch reads fails = (it, reads, fails)
answers_of c bytes it uncertified.NotCertifying reads fails = (it, reads, fails)

-- a certificate takes a byte at least
pub takes_a_byte : {S D P G C : Type 0} (p : D → List ℕ) (f : C → List ℕ) (it : Certificate S D P G C) → 0 < length (any_certificate_spelling p f it)
unfolding any_certificate_spelling
takes_a_byte p f it = omega arith

-- what is read of bytes leaves fewer, where each value takes one at least
pub shorter : {A : Type 0} {F : A → Type 0} {spelling : A → List ℕ} {reading : List ℕ → Result (A × List ℕ) CodecError}
    → IsCodec F spelling reading → ((x : A) → 0 < length (spelling x)) → (old new : List ℕ) (read : Result A CodecError) → Gives reading old new read → OnOk read (length new < length old)
shorter {A} {F} {spelling} codec takes old new (Ok x) gives =
    let spelled : old ≡ spelling x ++ new = (codec.takes old x new gives).0 in
    omega (arith, takes x, ap length spelled, length-append (spelling x) new)
shorter codec takes old new (Err why) gives = tt

-- what says something else makes nothing final
pub none_said : (c : Committee) (above : ℕ) (it : PlainCertificate) (said : Certified) → certificate_statement it ≡ statement_of said
    → ((q : Proposal (List ℕ)) → said ≡ certified.Finalization q → q.round.view ≤ above) → (p : Proposal (List ℕ)) → ¬ MakesFinal c above it p
none_said c above it (certified.Notarization q) says low p made = let other = made.says in absurd cc
none_said c above it (certified.Nullification r) says low p made = let other = made.says in absurd cc
none_said c above it (certified.Finalization q) says low p made =
    let other = made.says in
    let same : q ≡ p = cc in
    absurd (omega (arith, low q refl, ap (λ (x : Proposal (List ℕ)). x.round.view) same, made.later))

-- what can't be read breaks a chain
pub breaks_unread : (c : Committee) (above : ℕ) (bytes new : List ℕ) (why : CodecError) → Gives (plain_certificate_at c.members) bytes new (Err why) → Breaks c above bytes (Some (uncertified.Unread why))
breaks_unread c above bytes new End gives = inl (End, refl, inr gives.0)
breaks_unread c above bytes new Invalid gives = inl (Invalid, refl, inr gives.0)
breaks_unread c above bytes new TooLong gives = inl (TooLong, refl, inr gives.0)
breaks_unread c above bytes new Memory gives = inl (Memory, refl, inl refl)

-- so does want of memory
pub breaks_memory : (c : Committee) (above : ℕ) (bytes : List ℕ) → Breaks c above bytes (Some (uncertified.Unread Memory))
breaks_memory c above bytes = inl (Memory, refl, inl refl)

-- so does what makes nothing final
pub breaks_here : (c : Committee) (above : ℕ) (bytes : List ℕ) (it : PlainCertificate) (rest : List ℕ) (why : Option Uncertified) → plain_certificate_at c.members bytes ≡ Ok (it, rest)
    → FailsFinal c above it why → Breaks c above bytes why
breaks_here c above bytes it rest why reads fails = inr (it, rest, reads, fails)

-- one more follows
pub one_more : (c : Committee) (above : ℕ) (bytes : List ℕ) (ps : List (Proposal (List ℕ))) (rest : List ℕ) (p : Proposal (List ℕ)) (after : List ℕ)
    → IsChain c above bytes ps rest → Follows c (last_view above ps) rest p after → IsChain c above bytes (ps ++ p ∷ []) after
one_more c above bytes [] rest p after chain follows = (after, subst (λ (b : List ℕ). Follows c above b p after) (sym chain) follows, refl)
one_more c above bytes (x ∷ ps) rest p after chain follows = (chain.0, chain.1, one_more c x.round.view chain.0 ps rest p after chain.2 follows)

-- and its view is the last
pub last_of_more : (above : ℕ) (ps : List (Proposal (List ℕ))) (p : Proposal (List ℕ)) → last_view above (ps ++ p ∷ []) ≡ p.round.view
last_of_more above [] p = refl
last_of_more above (x ∷ ps) p = last_of_more x.round.view ps p

-- a chain that goes up to a place
pub broken_at : (c : Committee) (bytes : List ℕ) (ps : List (Proposal (List ℕ))) (rest : List ℕ) (place above : ℕ) (why : Option Uncertified)
    → IsChain c 0 bytes ps rest → above ≡ last_view 0 ps → place ≡ length bytes - length rest → length rest ≤ length bytes → Breaks c above rest why → IsBroken c bytes (record { place = place; why = why })
broken_at c bytes ps rest place above why chain last at left breaks = record {
  proposals = ps;
  rest = rest;
  chain = chain;
  place = omega (arith, at, left);
  why = subst (λ (v : ℕ). Breaks c v rest why) last breaks;
}
