-- What is held behind an opening is what was opened.
use Rattle.std.proofs.Common.{◌≡◌, ◌++◌, ◌∙◌, ap, subst, refl, ℕ, List, [], Option, None}
use Rattle.std.specs.Prelude.{Result, Ok, Err, IfOk}
use Rattle.types_core.specs.declared.scheme.Scheme.{Ghosts}
use Rattle.messages_certificates.specs.declared.artifact.Artifact.{Artifact}
use Rattle.types_terms.specs.Rotation.{Rotation}
use Rattle.types_terms.specs.declared.elector.Elector as elector
use Rattle.simplex_types.specs.Plain as plain
use Rattle.journal_single.specs.declared.disk.Disk as disk
use Rattle.journal_books.specs.declared.disks.Disks.{Disks}
use Rattle.journal_books.specs.Books.{are_two}
use Rattle.simplex_member.specs.declared.fault.OpenFault.{OpenFault}
use Rattle.simplex_member.specs.Packet.{Formats}
use Rattle.simplex_member.specs.Setup.{Setup}
use Rattle.node_steps.specs.Keeps.{disks_of}
use Rattle.node_steps.specs.Opening.{IsOpenAndSettled}
use Rattle.cli_settings.specs.declared.setting.Committee.{Committee}
use Rattle.cli_opening.specs.Members.{AreLeaders}
use Rattle.cli_disk.specs.HostedDisk.{HostedState}
use Rattle.cli_hosted.specs.Hosting.{AreFresh, IsBegun}
use Rattle.cli_hosted.specs.Sessions.{Hosted, Listed, PlainReply, node_of, replies_of}
use Rattle.cli_hosted.specs.declared.session.Session.{Session}

module _ (g : Ghosts plain.Committee (List ℕ) ℕ (List ℕ) Listed) (e : elector.Ghosts Rotation plain.Committee (List ℕ) ℕ (List ℕ) Listed) (k : disk.Ghosts HostedState)
    (formats : ℕ → Formats plain.Committee (List ℕ) ℕ (List ℕ) Listed) (w : PlainReply → List ℕ)
    (Readable : Artifact plain.Committee (List ℕ) ℕ (List ℕ) Listed → Type 0) (stored : List ℕ) (second : Option (List ℕ)) (on : Disks HostedState) (fresh : AreFresh stored second on) where
  -- so the session was begun that has the node, and whose replies are the first alone
  pub begun_of : {B : Type 0} (session : Result B OpenFault) (value : B → Session) (s : Setup plain.Committee (List ℕ) Listed) (opened : Result Hosted OpenFault) (before after : List ℕ)
      → before ≡ []
      → IfOk opened (λ node. (first : PlainReply) × (first.refused ≡ None) × (after ≡ before ++ w first)
      × IsOpenAndSettled g e k (formats (g.size s.voter.scheme)) s Readable None on 0 node first.actions.items)
      → IfOk opened (λ node. are_two (disks_of node) ≡ are_two on)
      → IfOk session (λ b. (opened ≡ Ok (node_of (value b))) × (replies_of (value b) ≡ after))
      → IfOk session (λ b. IsBegun g e k formats w Readable s stored second (value b))
  begun_of (Err why) value s opened before after none opens many has = has
  begun_of (Ok b) value s opened before after none opens many (is, same) =
      let there = subst (λ (o : Result Hosted OpenFault). IfOk o (λ node. (first : PlainReply) × (first.refused ≡ None) × (after ≡ before ++ w first)
      × IsOpenAndSettled g e k (formats (g.size s.voter.scheme)) s Readable None on 0 node first.actions.items)) is opens in
      record {
        on = on;
        fresh = fresh;
        first = there.0;
        refused = there.1;
        replied = same ∙ (there.2 ∙ ap (λ (xs : List ℕ). xs ++ w there.0) none);
        opens = there.3;
        as_many = subst (λ (o : Result Hosted OpenFault). IfOk o (λ node. are_two (disks_of node) ≡ are_two on)) is many;
      }

  -- the same by leaders of a committee
  pub begun_by_of : {B : Type 0} (session : Result B OpenFault) (value : B → Session) (c : Committee) (s : Rotation → Setup plain.Committee (List ℕ) Listed) (opened : Result Hosted OpenFault)
      (before after : List ℕ) → before ≡ []
      → IfOk opened (λ node. (leaders : Rotation) × (first : PlainReply) × AreLeaders c leaders × (first.refused ≡ None) × (after ≡ before ++ w first)
      × IsOpenAndSettled g e k (formats (g.size (s leaders).voter.scheme)) (s leaders) Readable None on 0 node first.actions.items)
      → IfOk opened (λ node. are_two (disks_of node) ≡ are_two on)
      → IfOk session (λ b. (opened ≡ Ok (node_of (value b))) × (replies_of (value b) ≡ after))
      → IfOk session (λ b. (leaders : Rotation) × AreLeaders c leaders × IsBegun g e k formats w Readable (s leaders) stored second (value b))
  begun_by_of (Err why) value c s opened before after none opens many has = has
  begun_by_of (Ok b) value c s opened before after none opens many (is, same) =
      let there = subst (λ (o : Result Hosted OpenFault). IfOk o (λ node. (leaders : Rotation) × (first : PlainReply) × AreLeaders c leaders × (first.refused ≡ None) × (after ≡ before ++ w first)
      × IsOpenAndSettled g e k (formats (g.size (s leaders).voter.scheme)) (s leaders) Readable None on 0 node first.actions.items)) is opens in (
        there.0,
        there.2,
        record {
          on = on;
          fresh = fresh;
          first = there.1;
          refused = there.3;
          replied = same ∙ (there.4 ∙ ap (λ (xs : List ℕ). xs ++ w there.1) none);
          opens = there.5;
          as_many = subst (λ (o : Result Hosted OpenFault). IfOk o (λ node. are_two (disks_of node) ≡ are_two on)) is many;
        },
      )
