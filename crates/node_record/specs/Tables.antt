-- What a node remembers of what it asked for, of when members were heard, and of the time.
use Rattle.std.specs.Prelude.{◌≡◌, ◌↔◌, ◌≤◌, ◌<◌, ℕ, Bool, true, false, IsTrue, List, [], ◌∷◌, ◌++◌, Contains, Option, Some, None, option_map, option_to_list, unwrap_or}
use Rattle.std.specs.BTreeMap.{get}
use Rattle.std.specs.BTreeSet.{contains}
use Rattle.std.specs.Ordering.{nat_cmp}
use Rattle.std.specs.declared.cmp.Ordering.{Ordering}
use Rattle.types_core.specs.declared.context.Context.{Context}
use Rattle.simplex_member.specs.declared.asked.Asked.{Asked}
use Rattle.simplex_member.specs.contracts.asked.AskedOrd.TheImpl as asked_ord
use Rattle.simplex_member.specs.Asked.{asks_now, asks_of, build_at, check_at, last_heard, next_number, was_repeated}
use Rattle.simplex_member.specs.Layers.{latest, opened_at}
use Rattle.simplex_member.specs.Point.{Point, Opened, Told, Heard, Built, Checked, AsksBuild, AsksVerify, AsksCertify, GivesBack, LeavesBehind, Asks, Repeats, History}
use Rattle.node_record.specs.declared.tables.Building.{Building}
use Rattle.node_record.specs.declared.tables.Tables.{Tables}

-- asks in their order: by view, by what is asked for, by whom
abbrev pub asked_cmp : Asked → Asked → Ordering
asked_cmp = (asked_ord.ghosts).cmp

-- what a history says of what was asked for, of when members were heard, and of the time
pub record Remembered (D P : Type 0) : Type 0 where
  pub opened : ℕ
  pub moment : ℕ
  pub number : ℕ
  pub builds : ℕ → Option (Bool × Context D P)
  pub checks : ℕ → Option ℕ
  pub heard : ℕ → ℕ
  pub asks : List Asked
  pub asks_now : List Asked
  pub repeated : Bool
  pub verdicts : List ℕ

-- whether a build is for a handoff, and its context
abbrev pub build_parts : {D P : Type 0} → Building D P → Bool × Context D P
build_parts b = (b.handoff, b.context)

module _ {S D P G C : Type 0} where
  -- the view on which a point asks for a verdict
  abbrev pub verdict_asked : Point S D P G C → Option ℕ
  verdict_asked (AsksCertify p) = Some p.round.view
  verdict_asked p = None

  -- the views on which a verdict was asked for
  abbrev pub verdicts_of : History S D P G C → List ℕ
  verdicts_of [] = []
  verdicts_of (p ∷ h) = option_to_list (verdict_asked p) ++ verdicts_of h

  -- a point says nothing of this
  abbrev pub is_quiet : Point S D P G C → Bool
  is_quiet (Opened now) = false
  is_quiet (Told now) = false
  is_quiet (Heard v) = false
  is_quiet (Built number handoff context payload took) = false
  is_quiet (Checked number view answer outcome) = false
  is_quiet (AsksBuild number handoff context) = false
  is_quiet (AsksVerify number context p) = false
  is_quiet (AsksCertify p) = false
  is_quiet (GivesBack number view) = false
  is_quiet (LeavesBehind number) = false
  is_quiet (Asks view ask to) = false
  is_quiet (Repeats v best) = false
  is_quiet p = true

  -- all of this by a history
  abbrev pub remembered : History S D P G C → Remembered D P
  remembered h = record {
    opened = opened_at h;
    moment = latest h;
    number = next_number h;
    builds = λ number. build_at h number;
    checks = λ number. check_at h number;
    heard = λ member. last_heard h member;
    asks = asks_of h;
    asks_now = asks_now h;
    repeated = was_repeated h;
    verdicts = verdicts_of h;
  }

  -- the tables tell this: of asks and requests for verdicts, those of views above this one and no other
  pub record Tells (low : ℕ) (tables : Tables S D P G C) (r : Remembered D P) : Type 0 where
    pub opened : tables.opened ≡ r.opened
    pub moment : tables.moment ≡ r.moment
    pub number : tables.number ≡ r.number
    pub builds : (number : ℕ) → option_map build_parts (get nat_cmp tables.builds number) ≡ r.builds number
    pub checks : (number : ℕ) → get nat_cmp tables.checks number ≡ r.checks number
    pub heard : (member : ℕ) → unwrap_or (get nat_cmp tables.heard member) tables.opened ≡ r.heard member
    pub asks : (a : Asked) → IsTrue (contains asked_cmp tables.asks a) ↔ ((low < a.view) × Contains r.asks a)
    pub asks_now : (a : Asked) → IsTrue (contains asked_cmp tables.asks_now a) ↔ Contains r.asks_now a
    pub repeated : tables.repeated ≡ r.repeated
    pub verdicts : (view : ℕ) → IsTrue (contains nat_cmp tables.verdicts view) ↔ ((low < view) × Contains r.verdicts view)

  -- the tables stand where this history leads: of asks and requests for verdicts, those of views above this one and no other
  abbrev pub KeepsTables : ℕ → Tables S D P G C → History S D P G C → Type 0
  KeepsTables low tables h = Tells low tables (remembered h)

  -- what holds of each view and each history at which the tables stand so
  abbrev pub AtEach : Tables S D P G C → (ℕ → History S D P G C → Type 0) → Type 0
  AtEach tables Q = (low : ℕ) (h : History S D P G C) → KeepsTables low tables h → Q low h

  -- of the builds that stand, this is the first of this number or a later one
  pub record IsFirstBuild (h : History S D P G C) (from number : ℕ) (build : Bool × Context D P) : Type 0 where
    pub there : build_at h number ≡ Some build
    pub behind : from ≤ number
    pub first : (n : ℕ) → from ≤ n → n < number → build_at h n ≡ None
