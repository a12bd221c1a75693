-- A vote in a correct member's name is one that it recorded.
use Rattle.std.proofs.Common.{◌≡◌, ⊎_elim, ℕ, Bool, true, false, List, [], ◌∷◌, ◌++◌, Option, Some, refl, sym, ◌∙◌, ap, subst, arith, append_assoc}
use Rattle.std.specs.Prelude.{Contains, if◌then◌else◌, IfSome}
use Rattle.std.proofs.lemmas.List.Elements.{Contains-append_cases}
use Rattle.types_quorum.specs.Counting.{Contains-cases}
use Rattle.types_core.specs.declared.scheme.Scheme.{Ghosts}
use Rattle.types_core.specs.Subject.{notarize}
use Rattle.messages_certificates.specs.declared.artifact.Artifact.{Artifact}
use Rattle.simplex_messages.specs.declared.vote.Vote.{Vote}
use Rattle.simplex_messages.specs.declared.vote.Vote.TheVariants as vote
use Rattle.simplex_messages.specs.VoteParts.{vote_artifact}
use Rattle.simplex_messages.specs.VoteParts.{vote_signer}
use Rattle.simplex_record.specs.declared.owner.Owner.{Owner}
use Rattle.simplex_record.specs.Lawful.{EverStands, Fits, VotesLawfully}
use Rattle.simplex_record.specs.Record as recorded
use Rattle.simplex_record.specs.Record.{Entry, entry, entries}
use Rattle.simplex_record.specs.Rules.{HasParentBelow, MayFollow, StandsByVotes}
use Rattle.simplex_record.specs.World.{World, IsCorrect}
use Rattle.batcher_verifier.specs.Votes.{vote_statement}
use Rattle.simplex_member.specs.declared.event.Channel.{Channel}
use Rattle.simplex_member.specs.declared.event.Channel.TheVariants as channel
use Rattle.simplex_member.specs.declared.event.Event.{Event}
use Rattle.simplex_member.specs.declared.event.Event.TheVariants as event
use Rattle.simplex_member.specs.declared.refusal.Refusal.{Refusal}
use Rattle.simplex_member.specs.declared.refusal.Refusal.TheVariants as refusal
use Rattle.simplex_member.specs.Deeds.{Deed, Sends, Serves, Blocks, Reports, all_deeds}
use Rattle.simplex_member.specs.Laws.{AreReadBack, IsOwnAndSound, LifeLaws}
use Rattle.simplex_member.specs.Lives.{Course, Life, Broken, Lasting, Turn, Refuses, Rewrites, Went, AreFaithful, CameIn, HandedOut, HasBytes, Holds, LiveByNodes, Lived, Lives, Members, Turns, WasHanded, handed_out, turn_deeds}
use Rattle.simplex_member.specs.Member.{Goes, after}
use Rattle.simplex_member.specs.Packet.{Formats, IsReadable, Packet, of_ask, of_certificate, of_vote, packet_of}
use Rattle.simplex_member.specs.Point.{Point, Rewrote, History}
use Rattle.simplex_member.specs.Recorded.{fresh_of, kept_of, record_of}
use Rattle.simplex_member.specs.Refusals.{blocks_sender, evidence_deeds, refused_deeds, refusal_report}
use Rattle.simplex_member.specs.Setup.{Setup, owner_of}
use Rattle.simplex_member.proofs.Going.{Lawful}
use Rattle.simplex_member.proofs.Keeping.{all-readable, cut-keeps, ended-part, kept-part, lives-keep, turns-keep}
use Rattle.simplex_member.proofs.Lists.{Contains-mapped, Lacks, lacks-absurd, lacks-append, lacks-if, lacks-map, lacks-nil, lacks-one, some-is}
use Rattle.simplex_member.proofs.Living.{votes-so}
use Rattle.simplex_member.proofs.Sending.{sent-recorded, vote_in}
use Rattle.simplex_member.proofs.Telling.{apart}

-- where something stands in a list, the list splits
pub record Splits {X : Type 0} (xs : List X) (x : X) : Type 0 where
  pub before : List X
  pub behind : List X
  pub is : xs ≡ before ++ x ∷ behind

pub splits : {X : Type 0} (xs : List X) (x : X) → Contains xs x → Splits xs x
splits [] x here = absurd (omega (arith, here.1))
splits {X} (y ∷ xs) x here = ⊎_elim
    (λ is. record { before = []; behind = xs; is = ap (λ (z : X). z ∷ xs) is })
    (λ later. let rest = splits xs x later in record { before = y ∷ rest.before; behind = rest.behind; is = ap (λ (l : List X). y ∷ l) rest.is })
    (Contains-cases y xs x here)

abbrev is_votes : Channel → Bool
is_votes channel.Votes = true
is_votes c = false

module _ {S D P G C : Type 0} (g : Ghosts S D P G C) (f : Formats S D P G C) (s : Setup S D C) where
  pub after-goes : (h : History S D P G C) (points : List (Point S D P G C)) (end : History S D P G C) → Goes g f s h points end → after h points ≡ end
  after-goes h [] end goes = sym goes
  after-goes h (p ∷ points) end goes = after-goes (p ∷ h) points end goes.1

  -- a refusal sends no vote
  report-none : (r : Refusal) (deeds : List (Deed S D P G C)) → Lacks vote_in deeds → Lacks vote_in (refusal_report g f s r deeds)
  report-none refusal.Contradiction deeds none = none
  report-none r deeds none = lacks-nil vote_in

  evidence-none : (h : History S D P G C) (sender : ℕ) (o : Option (Packet S D P G C)) → Lacks vote_in (evidence_deeds g f s h sender o)
  evidence-none h sender (Some (of_vote v)) = lacks-map vote_in Reports _ (λ a. refl)
  evidence-none h sender o = lacks-nil vote_in

  pub refused-none : (h : History S D P G C) (e : Event D) (r : Refusal) → Lacks vote_in (refused_deeds g f s h e r)
  refused-none h (event.Packet sender by bytes) r = lacks-append vote_in (if blocks_sender r then Blocks sender ∷ [] else []) (refusal_report g f s r (evidence_deeds g f s h sender (f.packet_in by bytes.items)))
      (lacks-if vote_in (blocks_sender r) (Blocks sender ∷ []) (lacks-one vote_in (Blocks sender) refl)) (report-none r _ (evidence-none h sender (f.packet_in by bytes.items)))
  refused-none h e r = lacks-nil vote_in

  turns-sent : (h : History S D P G C) (turns : List (Turn S D P G C)) (end : History S D P G C) (to : Option ℕ) (v : Vote S D P G C) → Turns g f s h turns end → Contains (turn_deeds g f s h turns) (Sends to (of_vote v)) → Contains (record_of end) (vote_artifact v)
  turns-sent h [] end to v t sent = absurd (omega (arith, sent.1))
  turns-sent h (Refuses e r ∷ turns) end to v t sent = ⊎_elim
      (λ here. absurd (lacks-absurd vote_in (refused_deeds g f s h e r) (Sends to (of_vote v)) v (refused-none h e r) refl here))
      (λ later. turns-sent h turns end to v t.1 later)
      (Contains-append_cases (refused_deeds g f s h e r) (turn_deeds g f s h turns) (Sends to (of_vote v)) sent)
  turns-sent h (Went e points ∷ turns) end to v t sent = ⊎_elim
      (λ here. turns-keep g f s t.0 turns end t.3 (vote_artifact v) (sent-recorded g f s h t.0 points to v t.2.goes here))
      (λ later. turns-sent t.0 turns end to v t.3 (subst (λ (m : History S D P G C). Contains (turn_deeds g f s m turns) (Sends to (of_vote v))) (after-goes h points t.0 t.2.goes) later))
      (Contains-append_cases (all_deeds g f s h points) (turn_deeds g f s (after h points) turns) (Sends to (of_vote v)) sent)
  turns-sent h (Rewrites c ∷ turns) end to v t sent = turns-sent (Rewrote c ∷ h) turns end to v t.1 sent

  life-sent : (found : List (Artifact S D P G C)) (life : Course S D P G C) (end : History S D P G C) (to : Option ℕ) (v : Vote S D P G C) → Lived g f s found life end → Contains (handed_out g f s life) (Sends to (of_vote v)) → Contains (record_of end) (vote_artifact v)
  life-sent found (Broken now points) end to v lived sent = absurd (omega (arith, sent.1))
  life-sent found (Lasting now points turns cut) end to v lived sent = cut-keeps g f s lived.1 cut end lived.5 (vote_artifact v) (⊎_elim
      (λ here. turns-keep g f s lived.0 turns lived.1 lived.4 (vote_artifact v) (sent-recorded g f s [] lived.0 points to v lived.3.goes here))
      (λ later. turns-sent lived.0 turns lived.1 to v lived.4 (subst (λ (m : History S D P G C). Contains (turn_deeds g f s m turns) (Sends to (of_vote v))) (after-goes [] points lived.0 lived.3.goes) later))
      (Contains-append_cases (all_deeds g f s [] points) (turn_deeds g f s (after [] points) turns) (Sends to (of_vote v)) sent))

  -- of a lawful record: what stands in it was allowed there
  pub placed : (r : List (Artifact S D P G C)) → Lawful g f s r → (x : Artifact S D P G C) → Contains r x → (before : List (Artifact S D P G C)) × (behind : List (Artifact S D P G C)) × (r ≡ before ++ x ∷ behind) × Fits (g.attests s.voter.scheme) (g.certifies s.voter.scheme) (owner_of s) before x
  placed r lawful x here = let at = splits r x here in (at.before, at.behind, at.is, lawful at.before at.behind x at.is)

  -- so a vote of it names a parent below
  pub parent-below : (r : List (Artifact S D P G C)) → Lawful g f s r → (v : Vote S D P G C) → Contains r (vote_artifact v) → HasParentBelow (vote_statement v)
  parent-below r lawful (vote.Notarize v) here = (placed r lawful (vote_artifact (vote.Notarize v)) here).3.follows.parent_below
  parent-below r lawful (vote.Nullify v) here = tt
  parent-below r lawful (vote.Finalize v) here =
      let at = placed r lawful (vote_artifact (vote.Finalize v)) here in
      let taken = Contains-mapped entry at.0 (recorded.taken (notarize v.proposal)) at.3.follows.notarized in
      let first = splits at.0 taken.0 taken.1 in
      let whole : r ≡ first.before ++ taken.0 ∷ (first.behind ++ vote_artifact (vote.Finalize v) ∷ at.1) =
      at.2 ∙ (ap (λ (l : List (Artifact S D P G C)). l ++ vote_artifact (vote.Finalize v) ∷ at.1) first.is ∙ append_assoc first.before (taken.0 ∷ first.behind) (vote_artifact (vote.Finalize v) ∷ at.1)) in
      let fits = lawful first.before (first.behind ++ vote_artifact (vote.Finalize v) ∷ at.1) taken.0 whole in
      let may = subst (λ (e : Entry D). MayFollow s.voter.length (entries first.before) e) taken.2 fits.follows in
      may.parent_below

  -- ---- of all that was ever recorded

  abbrev pub LawfulEver : List (Artifact S D P G C) → Type 0
  LawfulEver r = VotesLawfully (g.attests s.voter.scheme) (g.certifies s.voter.scheme) (owner_of s) r

  ever-placed : (r : List (Artifact S D P G C)) → LawfulEver r → (x : Artifact S D P G C) → Contains r x
      → (before : List (Artifact S D P G C)) × (behind : List (Artifact S D P G C)) × (r ≡ before ++ x ∷ behind) × EverStands (g.attests s.voter.scheme) (g.certifies s.voter.scheme) (owner_of s) before x
  ever-placed r lawful x here = let at = splits r x here in (at.before, at.behind, at.is, lawful at.before at.behind x at.is)

  pub ever-signed : (before : List (Artifact S D P G C)) (v : Vote S D P G C) → EverStands (g.attests s.voter.scheme) (g.certifies s.voter.scheme) (owner_of s) before (vote_artifact v) → vote_signer v ≡ s.me
  ever-signed before (vote.Notarize v) fits = fits.verifies.own
  ever-signed before (vote.Nullify v) fits = fits.verifies.own
  ever-signed before (vote.Finalize v) fits = fits.verifies.own

  ever-below : (r : List (Artifact S D P G C)) → LawfulEver r → (v : Vote S D P G C) → Contains r (vote_artifact v) → HasParentBelow (vote_statement v)
  ever-below r lawful (vote.Notarize v) here = (ever-placed r lawful (vote_artifact (vote.Notarize v)) here).3.stands.parent_below
  ever-below r lawful (vote.Nullify v) here = tt
  ever-below r lawful (vote.Finalize v) here =
      let at = ever-placed r lawful (vote_artifact (vote.Finalize v)) here in
      let taken = Contains-mapped entry at.0 (recorded.taken (notarize v.proposal)) at.3.stands.notarized in
      let first = splits at.0 taken.0 taken.1 in
      let whole : r ≡ first.before ++ taken.0 ∷ (first.behind ++ vote_artifact (vote.Finalize v) ∷ at.1) =
      at.2 ∙ (ap (λ (l : List (Artifact S D P G C)). l ++ vote_artifact (vote.Finalize v) ∷ at.1) first.is ∙ append_assoc first.before (taken.0 ∷ first.behind) (vote_artifact (vote.Finalize v) ∷ at.1)) in
      let fits = lawful first.before (first.behind ++ vote_artifact (vote.Finalize v) ∷ at.1) taken.0 whole in
      subst (λ (e : Entry D). StandsByVotes s.voter.length (entries first.before) e) taken.2 fits.stands

module _ {S D P G C : Type 0} (g : Ghosts S D P G C) (f : Formats S D P G C) (s : Setup S D C) where
  -- what lives handed out is recorded at their end
  lives-sent : (ever found : List (Artifact S D P G C)) (lives : List (Life S D P G C)) (all left : List (Artifact S D P G C)) (life : Life S D P G C) (to : Option ℕ) (v : Vote S D P G C) → Lives g f s ever found lives all left
      → ((x : Artifact S D P G C) → Contains found x → Contains ever x) → Contains lives life → Contains (handed_out g f life.setup life.course) (Sends to (of_vote v)) → Contains all (vote_artifact v)
  lives-sent ever found [] all left life to v led part here sent = absurd (omega (arith, here.1))
  lives-sent ever found (x ∷ lives) all left life to v led part here sent =
      let ever_then = ever ++ (x.founded ++ fresh_of led.0) in
      let kept_then = kept_of x.setup.voter.length led.0 in
      ⊎_elim
      (λ is. lives-keep g f s ever_then kept_then lives all left led.3 (vote_artifact v) (ended-part g f s ever found x led.0 led.2 part (vote_artifact v)
      (life-sent g f x.setup (found ++ x.founded) x.course led.0 to v led.2 (subst (λ (l : Life S D P G C). Contains (handed_out g f l.setup l.course) (Sends to (of_vote v))) (sym is) sent))))
      (λ later. lives-sent ever_then kept_then lives all left life to v led.3 (kept-part g f s ever found x led.0 led.2 part) later sent)
      (Contains-cases x lives life here)

module _ {S D P G C : Type 0} (g : Ghosts S D P G C) (f : Formats S D P G C) (scheme : S) (m : Members S D P G C) (world : World S D P G C) where
  -- a vote that a correct member handed out is its own, recorded, with its parent below
  pub own-sound : LifeLaws g → LiveByNodes g f scheme m world → (j : ℕ) → IsCorrect world j → (to : Option ℕ) (v : Vote S D P G C) → HandedOut g f scheme m world j (Sends to (of_vote v)) → IsOwnAndSound world j v
  own-sound basis w j correct to v sent =
      let lived = w.lived j correct in
      let here = lives-sent g f (m.setup j) [] [] (m.lives j) (world.recorded j) lived.0 sent.0 to v lived.1 (λ x there. there) sent.1 sent.2 in
      let lawful = votes-so g f basis (m.setup j) (m.lives j) (world.recorded j) lived.0 lived.1 in
      let at = ever-placed g f (m.setup j) (world.recorded j) lawful (vote_artifact v) here in
      record {
        recorded = here;
        signer = ever-signed g f (m.setup j) at.0 v at.3 ∙ ap (λ (o : Owner). o.signer) (w.owner j correct);
        parent_below = ever-below g f (m.setup j) (world.recorded j) lawful v here;
      }

  -- a vote that it recorded can be read
  pub vote-readable : AreReadBack f → LiveByNodes g f scheme m world → (j : ℕ) → IsCorrect world j → (v : Vote S D P G C) → Contains (world.recorded j) (vote_artifact v) → IsReadable f (of_vote v)
  vote-readable back w j correct v here = vote-read v (back.recorded (vote_artifact v) (all-readable g f (m.setup j) (m.lives j) (world.recorded j) (w.lived j correct).0 (w.lived j correct).1 (vote_artifact v) here))
    where
      vote-read : (u : Vote S D P G C) → IfSome (packet_of (vote_artifact u)) (IsReadable f) → IsReadable f (of_vote u)
      vote-read (vote.Notarize u) read = read
      vote-read (vote.Nullify u) read = read
      vote-read (vote.Finalize u) read = read

  -- so is each vote that came in to a correct member by a packet of it
  pub came-sound : LifeLaws g → AreReadBack f → LiveByNodes g f scheme m world → AreFaithful g f scheme m world → (i j : ℕ) → IsCorrect world i → IsCorrect world j → (v : Vote S D P G C) → CameIn g f scheme m world i j (of_vote v) → IsOwnAndSound world j v
  came-sound basis back w faithful i j ci cj v came = go came.0 came.1 came.2
    where
      by-deed : (by : Channel) (bytes : List ℕ) → f.packet_in by bytes ≡ Some (of_vote v) → (d : Deed S D P G C) → HandedOut g f scheme m world j d → HasBytes g f scheme m world by bytes d → IsOwnAndSound world j v
      by-deed by bytes read (Sends to (of_vote u)) sent is =
          let sound = own-sound basis w j cj to u sent in
          let read_so : f.packet_in channel.Votes (f.packet (of_vote u)) ≡ Some (of_vote v) = subst (λ (b : List ℕ). f.packet_in channel.Votes b ≡ Some (of_vote v)) is.1 (subst (λ (c : Channel). f.packet_in c bytes ≡ Some (of_vote v)) is.0 read) in
          let one : of_vote v ≡ of_vote u = some-is (of_vote v) (of_vote u) (sym read_so ∙ back.again (of_vote u) (vote-readable back w j cj u sound.recorded)) in
          own-sound basis w j cj to v (subst (λ (y : Packet S D P G C). HandedOut g f scheme m world j (Sends to y)) (sym one) sent)
      by-deed by bytes read (Sends to (of_certificate c)) sent is = absurd (apart (sym (ap is_votes (back.by_channel by bytes (of_vote v) read ∙ is.0))))
      by-deed by bytes read (Sends to (of_ask view)) sent is = absurd (apart (sym (ap is_votes (back.by_channel by bytes (of_vote v) read ∙ is.0))))
      by-deed by bytes read (Serves member served) sent is = absurd (apart (sym (ap is_votes (back.by_channel by bytes (of_vote v) read ∙ is.0))))
      by-deed by bytes read d sent is = absurd is

      go : (e : Event D) → WasHanded g f scheme m world i e → Holds g f scheme m world e j (of_vote v) → IsOwnAndSound world j v
      go (event.Packet from by bytes) handed holds =
          let d = faithful.handed i j (event.Packet from by bytes) by bytes.items ci cj handed (holds.0, refl, refl) in
          by-deed by bytes.items holds.1 d.0 d.1 d.2
      go e handed holds = absurd holds
