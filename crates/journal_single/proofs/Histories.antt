-- Where histories lead.
use Rattle.std.proofs.Common.{◌^◌, ◌≡◌, ◌≢◌, ◌⊎◌, inl, inr, ⊎_elim, ℕ, true, false, List, [], ◌∷◌, ◌++◌, map, refl, sym, ◌∙◌, ap, subst, append_assoc, arith, take_at, length}
use Rattle.std.specs.Prelude.{All, Contains, Option, None, Some, MatchOption, Result, unwrap_or}
use Rattle.std.proofs.lemmas.List.{append-nil, map-append}
use Rattle.std.proofs.lemmas.List.Elements.{All-nil, All-cons, All-push, All-take, All-contains, All-weaker, Contains-append_left, Contains-push}
use Rattle.std.specs.declared.alloc.Global.{Global}
use Rattle.std.specs.declared.vec.Vec.{Vec}
use Rattle.types_codec.specs.declared.codec.CodecError.{CodecError}
use Rattle.types_codec.specs.Codec.{IsCodec}
use Rattle.journal_single.specs.declared.fault.JournalFault.{JournalFault}
use Rattle.journal_single.specs.declared.fault.JournalFault.TheVariants.{Device, Memory, Foreign, TooLong, Failed}
use Rattle.journal_single.specs.declared.history.Event.{Event}
use Rattle.journal_single.specs.declared.history.Event.TheVariants.{Opened, OpenFailed, Appended, AppendFailed, NotOpen, Crashed}
use Rattle.journal_single.specs.declared.history.Stage.{Stage}
use Rattle.journal_single.specs.declared.history.Stage.TheVariants as stage
use Rattle.journal_single.specs.Disk.{Call, MayLeave, LeavesOnly}
use Rattle.journal_single.specs.Journal.{Standing, IsRecord, IsTooLong}
use Rattle.journal_single.specs.Record.{Reads, IsWithOrWithout, IsReopened, IsForeign, end_of}
use Rattle.journal_single.specs.History.{Begun, message_of, IsUnacknowledged, last_found, begun, IsFollowed, MayFind, MayRead, AtEachEvent, IsPastTheEnd, IsTrueOf, Finds, Leaves, Recalls, Remembers, IsAnswer, is_open, all_begun, disk_of, Stands}
use Rattle.journal_single.specs.Moments.{started, weaker, at_last}
use Rattle.journal_single.specs.Images.{end_short, only_synced, reads_front}
use Rattle.journal_single.specs.LookingLaws.{reopened_here}
use Rattle.journal_single.specs.OneReading.{unique, spellings-one}
use Rattle.journal_single.specs.Refusals.{entries_long, foreign_again, never_foreign}

-- ---- lists

-- what holds of all holds of all in front
pub all_in_front : {X : Type 0} (P : X → Type 0) (xs ys : List X) → All P (xs ++ ys) → All P xs
all_in_front P xs ys all = subst (All P) (take_at xs ys (length xs) refl) (All-take P (length xs) (xs ++ ys) all)

-- where a list with one more at its end is cut in two, that one is in the second part or there is no second part
record IsCut {X : Type 0} (xs kept lost : List X) (x : X) : Type 0 where
  pub shorter : List X
  pub lost_is : lost ≡ shorter ++ x ∷ []
  pub split : xs ≡ kept ++ shorter

last_cut : {X : Type 0} (xs kept lost : List X) (x : X) → xs ++ x ∷ [] ≡ kept ++ lost → (kept ≡ xs ++ x ∷ []) ⊎ IsCut xs kept lost x
last_cut xs [] lost x is = inr (record { shorter = xs; lost_is = sym is; split = refl })
last_cut [] (k ∷ []) lost x is = inl (let head : x ≡ k = cc in cc)
last_cut [] (k ∷ j ∷ kept) lost x is = absurd cc
last_cut (y ∷ xs) (k ∷ kept) lost x is =
    let head : y ≡ k = cc in
    let tail : xs ++ x ∷ [] ≡ kept ++ lost = cc in
    elim (last_cut xs kept lost x tail) [
      | inl whole ↦ inl cc
      | inr cut ↦ inr (record { shorter = cut.shorter; lost_is = cut.lost_is; split = let more = cut.split in cc })
    ]

-- ---- what may be found

module _ {M : Type 0} where
  -- an open journal was opened
  pub opened_found : (history : List (Event M)) → is_open history ≡ true → (found : List M) × (last_found history ≡ Some found)
  opened_found [] is = absurd cc
  opened_found (Opened messages ∷ history) is = (messages.items, refl)
  opened_found (OpenFailed fault ∷ history) is = absurd cc
  opened_found (Appended message ∷ history) is = opened_found history is
  opened_found (AppendFailed message fault ∷ history) is = opened_found history is
  opened_found (NotOpen message ∷ history) is = opened_found history is
  opened_found (Crashed ∷ history) is = absurd cc

  -- one append more
  pub message_of-push : (front : List M) (appends : List (Begun M)) (append : Begun M) → front ++ map message_of (appends ++ append ∷ []) ≡ (front ++ map message_of appends) ++ append.message ∷ []
  message_of-push front appends append = ap (λ (l : List M). front ++ l) (map-append message_of appends (append ∷ [])) ∙ sym (append_assoc front (map message_of appends) (append.message ∷ []))

  begun_is : (history : List (Event M)) (found : List M) → last_found history ≡ Some found → all_begun history ≡ found ++ map message_of (begun history)
  begun_is history found last = ap (λ (l : Option (List M)). unwrap_or l [] ++ map message_of (begun history)) last

  -- an append may be found
  pub followed_with : (history : List (Event M)) (append : Begun M) (found : List M) → last_found history ≡ Some found → IsFollowed found (begun history ++ append ∷ []) (all_begun history ++ append.message ∷ [])
  followed_with history append found last = record {
    kept = begun history ++ append ∷ [];
    lost = [];
    split = sym (append-nil (begun history ++ append ∷ []));
    none_acknowledged = All-nil _;
    is = ap (λ (l : List M). l ++ append.message ∷ []) (begun_is history found last) ∙ sym (message_of-push found (begun history) append);
  }

  -- one that was not acknowledged may be lost
  pub followed_without : (history : List (Event M)) (append : Begun M) → append.acknowledged ≡ false → (found : List M) → last_found history ≡ Some found → IsFollowed found (begun history ++ append ∷ []) (all_begun history)
  followed_without history append unacknowledged found last = record {
    kept = begun history;
    lost = append ∷ [];
    split = refl;
    none_acknowledged = All-cons IsUnacknowledged append [] unacknowledged (All-nil _);
    is = begun_is history found last;
  }

  -- what follows has only what was found or begun
  followed_fits : (Fits : M → Type 0) (found : List M) (appends : List (Begun M)) (messages : List M) → All Fits (found ++ map message_of appends) → IsFollowed found appends messages → All Fits messages
  followed_fits Fits found appends messages fitting followed =
      let all_there : found ++ map message_of appends ≡ messages ++ map message_of followed.lost =
      ap (λ (l : List (Begun M)). found ++ map message_of l) followed.split ∙ ap (λ (l : List M). found ++ l) (map-append message_of followed.kept followed.lost)
      ∙ sym (append_assoc found (map message_of followed.kept) (map message_of followed.lost)) ∙ ap (λ (l : List M). l ++ map message_of followed.lost) (sym followed.is) in
      all_in_front Fits messages (map message_of followed.lost) (subst (All Fits) all_there fitting)

module _ {M : Type 0} (spelling : M → List ℕ) (given : List Call) where
  -- the same as MayRead, by what was found last
  abbrev MayReadAs : Option (List M) → List (Begun M) → List ℕ → Type 0
  MayReadAs last appends image = MatchOption last (IsReopened given image) (λ found. (messages : List M) × IsFollowed found appends messages × Reads image (map spelling messages))

  reopened_as : (last : Option (List M)) (appends : List (Begun M)) (calls : List Call) → ((image : List ℕ) → MayLeave calls image → MayReadAs last appends image)
      → (image : List ℕ) → IsReopened calls image → MayReadAs last appends image
  reopened_as None appends calls left image again =
      let first = left again.before again.left in
      record {
        before = first.before;
        bodies = again.bodies;
        left = first.left;
        reads_before = subst (Reads first.before) (unique first.bodies again.bodies again.before first.reads again.reads_before) first.reads_before;
        reads = again.reads;
      }
  reopened_as (Some found) appends calls left image again =
      let first = left again.before again.left in
      (first.0, first.1, subst (Reads image) (unique again.bodies (map spelling first.0) again.before again.reads_before first.2) again.reads)

  -- what reads as a crash might have left it reads as the next opening may find
  pub reopened : (history : List (Event M)) (calls : List Call) → ((image : List ℕ) → MayLeave calls image → MayRead spelling given history image)
      → (image : List ℕ) → IsReopened calls image → MayRead spelling given history image
  reopened history calls = reopened_as (last_found history) (begun history) calls

  -- where a journal is open, an image that reads as this may be left
  pub reads_followed : (history : List (Event M)) (appends : List (Begun M)) (messages : List M) → is_open history ≡ true → ((found : List M) → last_found history ≡ Some found → IsFollowed found appends messages)
      → (image : List ℕ) → Reads image (map spelling messages) → MayReadAs (last_found history) appends image
  reads_followed history appends messages is_opened followed image reads =
      let last = opened_found history is_opened in
      subst (λ (l : Option (List M)). MayReadAs l appends image) (sym last.1) (messages, followed last.0 last.1, reads)

  -- the record with one append more
  pub reads_with : (history : List (Event M)) (append : Begun M) → is_open history ≡ true → (image : List ℕ) → Reads image (map spelling (all_begun history ++ append.message ∷ []))
      → MayReadAs (last_found history) (begun history ++ append ∷ []) image
  reads_with history append is_opened = reads_followed history (begun history ++ append ∷ []) (all_begun history ++ append.message ∷ []) is_opened (followed_with history append)

  -- the record with or without an append that a crash cut off
  pub reads_either : (history : List (Event M)) (message : M) → is_open history ≡ true → (image : List ℕ) → IsWithOrWithout (map spelling (all_begun history)) (spelling message) image
      → MayRead spelling given (AppendFailed message Device ∷ history) image
  reads_either history message is_opened image either =
      let append : Begun M = record { message = message; acknowledged = false } in
      ⊎_elim
      (λ without. reads_followed history (begun history ++ append ∷ []) (all_begun history) is_opened (followed_without history append refl) image without)
      (λ with_it. reads_with history append is_opened image (subst (Reads image) (sym (map-append spelling (all_begun history) (message ∷ []))) with_it)) either

  -- what an opening reads of such an image it may find
  found_as : {Fits : M → Type 0} {reading : List ℕ → Result (M × List ℕ) CodecError} → IsCodec Fits spelling reading → (last : Option (List M)) (appends : List (Begun M)) → All Fits (unwrap_or last [] ++ map message_of appends)
      → (before : List ℕ) → MayReadAs last appends before → (messages : List M) → All Fits messages → Reads before (map spelling messages)
      → MatchOption last ((before : List ℕ) × MayLeave given before × Reads before (map spelling messages)) (λ found. IsFollowed found appends messages)
  found_as codec None appends fitting before may messages fit reads =
      (may.before, may.left, subst (Reads may.before) (unique may.bodies (map spelling messages) before may.reads reads) may.reads_before)
  found_as {Fits} codec (Some found) appends fitting before may messages fit reads =
      let same : may.0 ≡ messages = spellings-one codec may.0 messages (followed_fits Fits found appends may.0 fitting may.1) fit (unique (map spelling may.0) (map spelling messages) before may.2 reads) in
      subst (λ (l : List M). IsFollowed found appends l) same may.1

  pub found : {Fits : M → Type 0} {reading : List ℕ → Result (M × List ℕ) CodecError} → IsCodec Fits spelling reading → (history : List (Event M)) → All Fits (all_begun history)
      → (before : List ℕ) → MayRead spelling given history before → (messages : List M) → All Fits messages → Reads before (map spelling messages) → MayFind spelling given history messages
  found codec history = found_as codec (last_found history) (begun history)

-- ---- where a disk stands

module _ {M K : Type 0} (Fits : M → Type 0) (spelling : M → List ℕ) (seen : K → List ℕ) (calls : K → List Call) (given : List Call) where
  abbrev At : Stage M K → List (Event M) → Type 0
  At now history = Stands Fits spelling seen calls given now history

  abbrev Left : List (Event M) → Event M → K → K → Type 0
  Left history event before after = Leaves spelling given history event (calls before) (calls after)

  abbrev RecordIs : Standing K → List M → Type 0
  RecordIs journal messages = IsRecord spelling seen calls journal messages

  -- a crash leaves nothing but the record
  pub record_reads : (journal : Standing K) (messages : List M) → RecordIs journal messages → (image : List ℕ) → MayLeave (calls journal.disk) image → Reads image (map spelling messages)
  record_reads journal messages is image left =
      let rest = is.1 in
      let whole : image ≡ rest.front ++ 0 ∷ [] = only_synced (rest.front ++ 0 ∷ []) rest.earlier image (subst (λ (l : List Call). MayLeave l image) rest.calls_is left) in
      subst (λ (l : List ℕ). Reads l (map spelling messages)) (sym whole) (reads_front rest.front (0 ∷ []) (map spelling messages) rest.entries (end_short (0 ∷ []) (omega arith)) (omega arith))

  -- the record's gate stands where its entries end
  gate_is : (journal : Standing K) (messages : List M) → RecordIs journal messages → journal.gate ≡ end_of (map spelling messages)
  gate_is journal messages is = is.1.gate_is ∙ entries_long is.1.front (map spelling messages) is.1.entries

  -- a message past the record's end is too long for the journal
  past_the_end : (journal : Standing K) (message : M) (history : List (Event M)) → journal.failed ≡ false → At (stage.Open journal) history → IsPastTheEnd spelling history message → IsTooLong (2 ^ 32) journal.gate (length (spelling message))
  past_the_end journal message history fresh at past = subst (λ (gate : ℕ). IsTooLong (2 ^ 32) gate (length (spelling message))) (sym (gate_is journal (all_begun history) (at.has_record fresh))) past

  -- and the other way round
  too_long : (journal : Standing K) (message : M) (history : List (Event M)) → journal.failed ≡ false → At (stage.Open journal) history → IsTooLong (2 ^ 32) journal.gate (length (spelling message)) → IsPastTheEnd spelling history message
  too_long journal message history fresh at long = subst (λ (gate : ℕ). IsTooLong (2 ^ 32) gate (length (spelling message))) (gate_is journal (all_begun history) (at.has_record fresh)) long

  -- an opening may be refused for an entry only where nothing was ever found
  foreign_given : (history : List (Event M)) (last : Option (List M)) → last_found history ≡ last → All Fits (all_begun history) → (image : List ℕ) → MayReadAs spelling given last (begun history) image
      → (place : ℕ) → IsForeign [] Fits spelling image place → IsTrueOf Fits spelling given history (OpenFailed (Foreign place))
  foreign_given history None is fitting image may place foreign = (is, may.before, may.left, foreign_again image may.before may.bodies place may.reads may.reads_before foreign)
  foreign_given history (Some found) is fitting image may place foreign =
      let fit = followed_fits Fits found (begun history) may.0 (subst (All Fits) (begun_is history found is) fitting) may.1 in
      absurd (never_foreign image may.0 place fit may.2 foreign)

  -- a disk that was given
  pub given_stands : (disk : K) → calls disk ≡ given → At (stage.Closed disk) []
  given_stands disk is = record {
    finds = tt;
    true_of = tt;
    left = λ image may. reopened_here given image (subst (λ (l : List Call). MayLeave l image) is may);
    fitting = All-nil Fits;
    stage = refl;
    has_record = tt;
  }

  -- an opening that answers Ok
  pub opened_stands : {reading : List ℕ → Result (M × List ℕ) CodecError} → IsCodec Fits spelling reading → (old : Stage M K) (history : List (Event M)) (disk : K) (new : Standing K) (messages : Vec M Global)
      → disk ≡ disk_of old → All Fits messages.items → RecordIs new messages.items → (before : List ℕ) × MayLeave (calls disk) before × Reads before (map spelling messages.items)
      → LeavesOnly (calls disk) (calls new.disk) (IsReopened (calls disk)) → At old history → At (stage.Open new) (Opened messages ∷ history) × Left history (Opened messages) (disk_of old) new.disk
  opened_stands codec old history disk new messages disk_is fit is read moments at =
      let left : (image : List ℕ) → MayLeave (calls disk) image → MayRead spelling given history image = subst (λ (d : K). (image : List ℕ) → MayLeave (calls d) image → MayRead spelling given history image) (sym disk_is) at.left in (
        record {
          finds = (found spelling given codec history at.fitting read.0 (left read.0 read.1) messages.items fit read.2, at.finds);
          true_of = (tt, at.true_of);
          left = λ image may. (
            messages.items,
            record { kept = []; lost = []; split = refl; none_acknowledged = All-nil _; is = sym (append-nil messages.items) },
            record_reads new messages.items is image may,
          );
          fitting = subst (All Fits) (sym (append-nil messages.items)) fit;
          stage = (refl, is.0);
          has_record = λ fresh. subst (RecordIs new) (sym (append-nil messages.items)) is;
        },
        subst (λ (d : K). Left history (Opened messages) d new.disk) disk_is (weaker _ moments (reopened spelling given history (calls disk) left)),
      )

  -- what an opening that fails says
  open_failed_true : (fault : JournalFault) (history : List (Event M)) → All Fits (all_begun history) → (image : List ℕ) → MayRead spelling given history image
      → ((place : ℕ) → fault ≡ Foreign place → IsForeign [] Fits spelling image place) → IsTrueOf Fits spelling given history (OpenFailed fault)
  open_failed_true Device history fitting image may foreign = tt
  open_failed_true Memory history fitting image may foreign = tt
  open_failed_true (Foreign place) history fitting image may foreign = foreign_given history (last_found history) refl fitting image may place (foreign place refl)
  open_failed_true TooLong history fitting image may foreign = tt
  open_failed_true Failed history fitting image may foreign = tt

  -- an opening that fails
  pub open_failed_stands : (old : Stage M K) (history : List (Event M)) (disk new : K) (fault : JournalFault) → disk ≡ disk_of old
      → LeavesOnly (calls disk) (calls new) (IsReopened (calls disk)) → MayLeave (calls new) (seen new) → ((place : ℕ) → fault ≡ Foreign place → IsForeign [] Fits spelling (seen new) place)
      → At old history → At (stage.Closed new) (OpenFailed fault ∷ history) × Left history (OpenFailed fault) (disk_of old) new
  open_failed_stands old history disk new fault disk_is moments here foreign at =
      let left : (image : List ℕ) → MayLeave (calls disk) image → MayRead spelling given history image = subst (λ (d : K). (image : List ℕ) → MayLeave (calls d) image → MayRead spelling given history image) (sym disk_is) at.left in
      let only = weaker (MayRead spelling given history) moments (reopened spelling given history (calls disk) left) in (
        record {
          finds = (tt, at.finds);
          true_of = (open_failed_true fault history at.fitting (seen new) (at_last only (seen new) here) foreign, at.true_of);
          left = at_last only;
          fitting = at.fitting;
          stage = refl;
          has_record = tt;
        },
        subst (λ (d : K). Left history (OpenFailed fault) d new) disk_is only,
      )

  -- an append that answers Ok
  pub appended_stands : (old new : Standing K) (message : M) (history : List (Event M)) → Fits message → old.failed ≡ false → new.failed ≡ false → (IsTooLong (2 ^ 32) old.gate (length (spelling message)) → ⊥)
      → ((messages : List M) → RecordIs old messages → RecordIs new (messages ++ message ∷ []))
      → ((messages : List M) → RecordIs old messages → LeavesOnly (calls old.disk) (calls new.disk) (IsWithOrWithout (map spelling messages) (spelling message)))
      → At (stage.Open old) history → At (stage.Open new) (Appended message ∷ history) × Left history (Appended message) old.disk new.disk
  appended_stands old new message history fit fresh stays short grows moments at =
      let append : Begun M = record { message = message; acknowledged = true } in
      let before : RecordIs old (all_begun history) = at.has_record fresh in
      let after : RecordIs new (all_begun history ++ message ∷ []) = grows (all_begun history) before in
      let more : all_begun history ++ message ∷ [] ≡ all_begun (Appended message ∷ history) = sym (message_of-push (unwrap_or (last_found history) []) (begun history) append) in (
        record {
          finds = (tt, at.finds);
          true_of = (λ past. short (past_the_end old message history fresh at past), at.true_of);
          left = λ image may. reads_with spelling given history append at.stage.0 image (record_reads new (all_begun history ++ message ∷ []) after image may);
          fitting = subst (All Fits) more (All-push Fits (all_begun history) message at.fitting fit);
          stage = (at.stage.0, stays ∙ sym fresh ∙ at.stage.1);
          has_record = λ _. subst (RecordIs new) more after;
        },
        weaker _ (moments (all_begun history) before) (reads_either spelling given history message at.stage.0),
      )

  -- one that fails for the disk
  pub cut_stands : (old new : Standing K) (message : M) (history : List (Event M)) → Fits message → old.failed ≡ false → new.failed ≡ true → (IsTooLong (2 ^ 32) old.gate (length (spelling message)) → ⊥)
      → ((messages : List M) → RecordIs old messages → LeavesOnly (calls old.disk) (calls new.disk) (IsWithOrWithout (map spelling messages) (spelling message)))
      → At (stage.Open old) history → At (stage.Open new) (AppendFailed message Device ∷ history) × Left history (AppendFailed message Device) old.disk new.disk
  cut_stands old new message history fit fresh fails short moments at =
      let append : Begun M = record { message = message; acknowledged = false } in
      let only = weaker (MayRead spelling given (AppendFailed message Device ∷ history)) (moments (all_begun history) (at.has_record fresh)) (reads_either spelling given history message at.stage.0) in (
        record {
          finds = (tt, at.finds);
          true_of = (λ past. short (past_the_end old message history fresh at past), at.true_of);
          left = at_last only;
          fitting = subst (All Fits) (sym (message_of-push (unwrap_or (last_found history) []) (begun history) append)) (All-push Fits (all_begun history) message at.fitting fit);
          stage = (at.stage.0, fails);
          has_record = λ never. absurd (let both : true ≡ false = sym fails ∙ never in cc);
        },
        only,
      )

  -- what an append that is refused says
  refused_true : (fault : JournalFault) (old : Standing K) (message : M) (history : List (Event M)) → fault ≢ Device → (fault ≢ Failed → old.failed ≡ false)
      → (fault ≡ Memory → IsTooLong (2 ^ 32) old.gate (length (spelling message)) → ⊥) → (fault ≡ TooLong → IsTooLong (2 ^ 32) old.gate (length (spelling message)))
      → At (stage.Open old) history → IsTrueOf Fits spelling given history (AppendFailed message fault)
  refused_true Device old message history refused fresh short long at = absurd (refused refl)
  refused_true Memory old message history refused fresh short long at = λ past. short refl (past_the_end old message history (fresh (λ never. absurd cc)) at past)
  refused_true (Foreign place) old message history refused fresh short long at = tt
  refused_true TooLong old message history refused fresh short long at = too_long old message history (fresh (λ never. absurd cc)) at (long refl)
  refused_true Failed old message history refused fresh short long at = tt

  -- one that is refused
  pub refused_stands : (fault : JournalFault) (old : Standing K) (message : M) (history : List (Event M)) → fault ≢ Device → (fault ≢ Failed → old.failed ≡ false)
      → (fault ≡ Memory → IsTooLong (2 ^ 32) old.gate (length (spelling message)) → ⊥) → (fault ≡ TooLong → IsTooLong (2 ^ 32) old.gate (length (spelling message)))
      → At (stage.Open old) history → At (stage.Open old) (AppendFailed message fault ∷ history) × Left history (AppendFailed message fault) old.disk old.disk
  refused_stands Device old message history refused fresh short long at = absurd (refused refl)
  refused_stands fault old message history refused fresh short long at = (
    record {
      finds = (tt, at.finds);
      true_of = (refused_true fault old message history refused fresh short long at, at.true_of);
      left = at.left;
      fitting = at.fitting;
      stage = at.stage;
      has_record = at.has_record;
    },
    started (calls old.disk) _ at.left,
  )

-- ---- nothing is lost

module _ {M : Type 0} (spelling : M → List ℕ) (given : List Call) where
  -- what is recalled is recalled where more was found
  recalls_more : (messages more : List M) (event : Event M) → Recalls messages event → Recalls (messages ++ more) event
  recalls_more messages more (Opened found) recalled = (recalled.0 ++ more, ap (λ (l : List M). l ++ more) recalled.1 ∙ append_assoc found.items recalled.0 more)
  recalls_more messages more (Appended message) recalled = Contains-append_left messages more message recalled
  recalls_more messages more event recalled = tt

  recalls_all_more : (messages longer more : List M) (history : List (Event M)) → longer ≡ messages ++ more → All (Recalls messages) history → All (Recalls longer) history
  recalls_all_more messages longer more history is all = subst (λ (l : List M). All (Recalls l) history) (sym is) (All-weaker (Recalls messages) (Recalls (messages ++ more)) (recalls_more messages more) history all)

  -- where this was found last, it says what may be found
  may_find : (history : List (Event M)) (found messages : List M) → last_found history ≡ Some found → IsFollowed found (begun history) messages → MayFind spelling given history messages
  may_find history found messages last followed =
      subst (λ (l : Option (List M)). MatchOption l ((before : List ℕ) × MayLeave given before × Reads before (map spelling messages)) (λ found. IsFollowed found (begun history) messages)) (sym last) followed

  followed_of : (last : Option (List M)) (A : Type 0) (P : List M → Type 0) (found : List M) → last ≡ Some found → MatchOption last A P → P found
  followed_of last A P found is may = subst (λ (l : Option (List M)). MatchOption l A P) is may

  -- all that was begun before, and this append too
  record IsWhole (history : List (Event M)) (append : Begun M) (messages : List M) : Type 0 where
    pub shorter : List M
    pub may_find : MayFind spelling given history shorter
    pub is : messages ≡ shorter ++ append.message ∷ []

  -- an append may be found, or what may be found was to be found before it
  with_or_without : (history : List (Event M)) (append : Begun M) (found messages : List M) → last_found history ≡ Some found → IsFollowed found (begun history ++ append ∷ []) messages
      → IsWhole history append messages ⊎ ((append.acknowledged ≡ false) × MayFind spelling given history messages)
  with_or_without history append found messages last followed = elim (last_cut (begun history) followed.kept followed.lost append followed.split) [
    | inl whole ↦ inl (record {
      shorter = found ++ map message_of (begun history);
      may_find = may_find history found _ last (record { kept = begun history; lost = []; split = sym (append-nil (begun history)); none_acknowledged = All-nil _; is = refl });
      is = followed.is ∙ ap (λ (l : List (Begun M)). found ++ map message_of l) whole ∙ message_of-push found (begun history) append;
    })
    | inr cut ↦
        let none = subst (All IsUnacknowledged) cut.lost_is followed.none_acknowledged in
        inr (
          All-contains IsUnacknowledged _ append none (Contains-push cut.shorter append),
          may_find history found messages last
              (record { kept = followed.kept; lost = cut.shorter; split = cut.split; none_acknowledged = all_in_front IsUnacknowledged cut.shorter (append ∷ []) none; is = followed.is }),
        )
  ]

  -- what may be found has all that was found or acknowledged before
  recalled : (history : List (Event M)) (messages : List M) → AtEachEvent IsAnswer history → AtEachEvent (Finds spelling given) history → MayFind spelling given history messages → All (Recalls messages) history
  recalled [] messages answers finds may = All-nil _
  recalled (Opened found ∷ history) messages answers finds may =
      All-cons (Recalls messages) (Opened found) history (map message_of may.kept, may.is)
      (recalls_all_more found.items messages (map message_of may.kept) history may.is (recalled history found.items answers.1 finds.1 finds.0))
  recalled (Appended message ∷ history) messages answers finds may =
      let append : Begun M = record { message = message; acknowledged = true } in
      let last = opened_found history answers.0.0 in
      elim (with_or_without history append last.0 messages last.1 (followed_of (last_found history) _ (λ found. IsFollowed found (begun history ++ append ∷ []) messages) last.0 last.1 may)) [
        | inl whole ↦
            All-cons (Recalls messages) (Appended message) history (subst (λ (l : List M). Contains l message) (sym whole.is) (Contains-push whole.shorter message))
            (recalls_all_more whole.shorter messages (message ∷ []) history whole.is (recalled history whole.shorter answers.1 finds.1 whole.may_find))
        | inr without ↦ absurd (let never : true ≡ false = without.0 in cc)
      ]
  recalled (AppendFailed message Device ∷ history) messages answers finds may =
      let append : Begun M = record { message = message; acknowledged = false } in
      let last = opened_found history answers.0.0 in
      All-cons (Recalls messages) (AppendFailed message Device) history tt
      (elim (with_or_without history append last.0 messages last.1 (followed_of (last_found history) _ (λ found. IsFollowed found (begun history ++ append ∷ []) messages) last.0 last.1 may)) [
        | inl whole ↦ recalls_all_more whole.shorter messages (message ∷ []) history whole.is (recalled history whole.shorter answers.1 finds.1 whole.may_find)
        | inr without ↦ recalled history messages answers.1 finds.1 without.1
      ])
  recalled (event ∷ history) messages answers finds may = All-cons (Recalls messages) event history tt (recalled history messages answers.1 finds.1 may)

  -- each opening finds all that was found or acknowledged before it
  pub remembers : (history : List (Event M)) → AtEachEvent IsAnswer history → AtEachEvent (Finds spelling given) history → AtEachEvent Remembers history
  remembers [] answers finds = tt
  remembers (Opened messages ∷ history) answers finds = (recalled history messages.items answers.1 finds.1 finds.0, remembers history answers.1 finds.1)
  remembers (event ∷ history) answers finds = (tt, remembers history answers.1 finds.1)
