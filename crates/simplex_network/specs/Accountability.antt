-- Who is ever blamed, however many members are excused: statements.
use Rattle.std.specs.Prelude.{◌<◌, ◌+◌, ℕ, List, Contains, ◌≡◌, Option, Some, None, Result, ⊤}
use Rattle.std.specs.List.{flat_map}
use Rattle.std.specs.declared.cmp.Ordering.{Ordering}
use Rattle.types_codec.specs.declared.codec.CodecError.{CodecError}
use Rattle.types_core.specs.declared.position.Round.{Round}
use Rattle.types_core.specs.declared.scheme.Scheme.{Ghosts}
use Rattle.types_quorum.specs.Committee.{faults}
use Rattle.simplex_messages.specs.declared.activity.Activity.{Activity}
use Rattle.simplex_rules.specs.Accountability.{IsContradicted, NamesAtLeast}
use Rattle.simplex_rules.specs.Audit.{Accusation, IsAccused, IsAudit, IsVerdict}
use Rattle.simplex_record.specs.World.{World, IsCorrect}
use Rattle.simplex_member.specs.Deeds.{Deed, Reports}
use Rattle.simplex_member.specs.Laws.{ReadsAsPacket}
use Rattle.simplex_member.specs.Lives.{HandedOut, LiveByNodes, Members}
use Rattle.simplex_member.specs.Packet.{Formats}

module _ {S D P G C : Type 0} (g : Ghosts S D P G C) (f : Formats S D P G C) where
  -- each of these reports was handed out by a member that isn't excused
  abbrev pub AreReported : S → Members S D P G C → World S D P G C → List (Activity S D P G C) → Type 0
  AreReported scheme m world reports = (a : Activity S D P G C) → Contains reports a
      → (i : ℕ) × IsCorrect world i × HandedOut g f scheme m world i (Reports a)

  -- an audit over reports of such members names none of them
  abbrev pub NoneIsNamed : (D → D → Ordering) → Type 0
  NoneIsNamed cmp = (scheme : S) (m : Members S D P G C) (world : World S D P G C) → LiveByNodes g f scheme m world
      → (reports evidence : List (Activity S D P G C)) → AreReported scheme m world reports
      → IsVerdict g.lists (g.attests scheme) cmp reports evidence
      → (x : Accusation) → IsAccused evidence x → IsCorrect world x.signer → ⊥

  -- where certificates among their reports contradict each other on a round, it names at least one member more of that round than may be
  -- faulty, and none of them is one of these
  abbrev pub ContradictionsNameEnough : (D → D → Ordering) → Type 0
  ContradictionsNameEnough cmp = (scheme : S) (m : Members S D P G C) (world : World S D P G C) → LiveByNodes g f scheme m world
      → 0 < g.size scheme
      → (reports evidence : List (Activity S D P G C)) → AreReported scheme m world reports
      → IsVerdict g.lists (g.attests scheme) cmp reports evidence
      → (round : Round) → IsContradicted (g.certifies scheme) reports round
      → (named : NamesAtLeast (faults (g.size scheme) + 1) (g.size scheme) evidence round) × ((i : ℕ) → Contains named.names i → IsCorrect world i → ⊥)

  -- so it is of all certificates among their reports, where the audit is by a scheme of the committee's size: members report none that doesn't
  -- verify by such a one
  abbrev pub ReportedNameEnough : (D → D → Ordering) → Type 0
  ReportedNameEnough cmp = (scheme : S) (m : Members S D P G C) (world : World S D P G C) → LiveByNodes g f scheme m world
      → g.size scheme ≡ world.size
      → (reports evidence : List (Activity S D P G C)) → AreReported scheme m world reports
      → IsVerdict g.lists (g.attests scheme) cmp reports evidence
      → (round : Round) → IsContradicted (λ x c. ⊤) reports round
      → (named : NamesAtLeast (faults world.size + 1) world.size evidence round)
      × ((i : ℕ) → Contains named.names i → IsCorrect world i → ⊥)

  -- their reports, one behind the other as members spell them, are read to their end: an audit of the bytes is one of just these reports
  abbrev pub JoinedAreAudited : (D → D → Ordering) → S → (Activity S D P G C → Type 0) → (Activity S D P G C → List ℕ)
      → (List ℕ → Result (Activity S D P G C × List ℕ) CodecError) → Type 0
  JoinedAreAudited cmp scheme Fits spelling reading = (m : Members S D P G C) (world : World S D P G C) → LiveByNodes g f scheme m world
      → (reports evidence : List (Activity S D P G C)) (fault : Option ℕ) → AreReported scheme m world reports
      → IsAudit g.lists (g.attests scheme) cmp Fits spelling reading (flat_map f.report reports) evidence fault
      → (fault ≡ None) × IsVerdict g.lists (g.attests scheme) cmp reports evidence

  -- what is handed out is in the grammar: the bytes of a packet read as that packet, those that are served as a certificate, and those of a
  -- report as that report
  abbrev pub IsInGrammar : Deed S D P G C → Type 0
  IsInGrammar (Reports a) = f.report_in (f.report a) ≡ Some a
  IsInGrammar d = ReadsAsPacket g f d

  -- so is all that these members hand out
  abbrev pub AllIsInGrammar : Type 0
  AllIsInGrammar = (scheme : S) (m : Members S D P G C) (world : World S D P G C) → LiveByNodes g f scheme m world → (i : ℕ)
      → IsCorrect world i → (d : Deed S D P G C) → HandedOut g f scheme m world i d → IsInGrammar d
