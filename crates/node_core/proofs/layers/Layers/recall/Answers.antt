use Rattle.std.proofs.Common.{◌∷◌, ◌++◌, [], ◌∙◌, sym, subst, refl, ℕ, append_assoc}
use Rattle.std.proofs.lemmas.Result.{on_ok_weaker}
use Rattle.types_core.specs.Positions.{HasRoom}
use Rattle.messages_certificates.specs.Artifact.{artifact_round}
use Rattle.simplex_state.specs.State as voting
use Rattle.simplex_member.specs.Layers.{finds, voter_of}
use Rattle.simplex_member.specs.Packet.{formats}
use Rattle.simplex_member.specs.Point.{Found}
use Rattle.simplex_member.specs.Recorded.{record_of}
use Rattle.simplex_member.specs.Setup.{owner_of}
use Rattle.node_core.specs.Recalling.{GoesThrough}
use Rattle.node_core.proofs.NextFound.{allowed, counted, known, new, on-recorded, whole}
use Rattle.node_core.proofs.layers.Layers.recall.Goals as goal

pub tell_voter-requires : goal.tell_voter-requires
tell_voter-requires g c =
    let x = c.args.artifact.now in
    let fs = formats {S = g.row.S.Denot} {P = g.row.S-PublicKey.Denot} g.D.PartialEq.eq g.D.Write.spelling g.S.Signature.Write.spelling g.S.Certificate.Write.spelling g.D.Read.reading g.S.Signature.Read.reading g.S.Certificate.Read.reading in
    let t = c.requires.3 in
    let all = whole g.S.Scheme g.L.Elector fs c.args.recorded.now c.args.self.now c.requires.0 c.requires.1 x c.requires.2 t in
    record {
      s = t.s.voter;
      h = voter_of t.s t.gone.h;
      keeps = t.gone.stand.voter;
      room = c.lawful_records_leave_room.ensures t.s.voter.scheme (owner_of t.s) (record_of t.gone.h) c.requires.1 x all.lawful;
      known = known g.S.Scheme g.L.Elector fs c.args.recorded.now c.args.self.now c.requires.0 c.requires.1 x c.requires.2 t c.what_is_known_stays.ensures.known;
    }

pub tell_votes-requires : goal.tell_votes-requires
tell_votes-requires g c =
    let x = c.args.artifact.now in
    let fs = formats {S = g.row.S.Denot} {P = g.row.S-PublicKey.Denot} g.D.PartialEq.eq g.D.Write.spelling g.S.Signature.Write.spelling g.S.Certificate.Write.spelling g.D.Read.reading g.S.Signature.Read.reading g.S.Certificate.Read.reading in
    let t = c.requires.3 in
    let s = t.s in
    let h = t.gone.h in
    let all = whole g.S.Scheme g.L.Elector fs c.args.recorded.now c.args.self.now c.requires.0 c.requires.1 x c.requires.2 t in
    let room : HasRoom s.voter.length (artifact_round x).view = c.lawful_records_leave_room.ensures s.voter.scheme (owner_of s) (record_of h) c.requires.1 x all.lawful in
    let told = c.in_ok-tell_voter.ensures s.voter (voter_of s h) t.gone.stand.voter room (new g.S.Scheme g.L.Elector fs c.args.recorded.now c.args.self.now c.requires.0 c.requires.1 x c.requires.2 t (c.what_is_not_recorded_is_unknown.ensures (fs t.members) s h)) in (
      s,
      h,
      t.gone.stand.votes,
      counted g.S.Scheme g.L.Elector fs c.args.recorded.now c.args.self.now c.requires.0 c.requires.1 x c.requires.2 t told.0 told.1 room
          (λ v. c.own_votes_come_free.ensures.found (fs t.members) s h v told.0 (c.packets_are_read_back.ensures.exact t.members)),
    )

pub tell_repair-requires : goal.tell_repair-requires
tell_repair-requires g c =
    let fs = formats {S = g.row.S.Denot} {P = g.row.S-PublicKey.Denot} g.D.PartialEq.eq g.D.Write.spelling g.S.Signature.Write.spelling g.S.Certificate.Write.spelling g.D.Read.reading g.S.Signature.Read.reading g.S.Certificate.Read.reading in
    on-recorded g.S.Scheme g.L.Elector fs c.args.recorded.now c.args.self.now c.requires.0 c.requires.1 c.args.artifact.now c.requires.2 c.requires.3

pub returns : goal.returns
returns g c = on_ok_weaker c.tell_repair.result (λ recalled n now s found rest before after is k acts.
    let fs = formats {S = g.row.S.Denot} {P = g.row.S-PublicKey.Denot} g.D.PartialEq.eq g.D.Write.spelling g.S.Signature.Write.spelling g.S.Certificate.Write.spelling g.D.Read.reading g.S.Signature.Read.reading g.S.Certificate.Read.reading in
    let x = c.args.artifact.now in
    let h = k.h in
    let t : GoesThrough g.S.Scheme g.L.Elector fs c.args.recorded.now c.args.self.now found (x ∷ rest) before = record { members = n; now = now; s = s; record_is = is; gone = k } in
    let all = whole g.S.Scheme g.L.Elector fs c.args.recorded.now c.args.self.now found rest x before t in
    let moment = c.moment.ensures 0 h (k.stand.tables 0) in
    let room : HasRoom s.voter.length (artifact_round x).view = c.lawful_records_leave_room.ensures s.voter.scheme (owner_of s) (record_of h) rest x all.lawful in
    let told = c.in_ok-tell_voter.ensures s.voter (voter_of s h) k.stand.voter room (new g.S.Scheme g.L.Elector fs c.args.recorded.now c.args.self.now found rest x before t (c.what_is_not_recorded_is_unknown.ensures (fs n) s h)) in
    let voter = subst (λ (u : ℕ). voting.Keeps g.S.Scheme g.L.Elector s.voter c.tell_voter.new.voter (finds u x told.0 ++ voter_of s h)) moment told.2 in
    let may = allowed g.S.Scheme g.L.Elector fs c.args.recorded.now c.args.self.now found rest x before t told.0 told.1 in
    let ahead = c.in_ok-tell_votes.ensures s h k.stand.votes told.0 (counted g.S.Scheme g.L.Elector fs c.args.recorded.now c.args.self.now found rest x before t told.0 told.1 room
    (λ v. c.own_votes_come_free.ensures.found (fs n) s h v told.0 (c.packets_are_read_back.ensures.exact n))) in
    let current = c.current_view-current.ensures s.voter (voter_of s (Found x told.0 ∷ h)) voter in
    let least = c.min_active-least.ensures s.voter (voter_of s (Found x told.0 ∷ h)) (c.views.ensures s.voter (voter_of s (Found x told.0 ∷ h)) voter) in
    record {
      h = Found x told.0 ∷ h;
      reading = k.reading;
      allowed = (may, k.allowed);
      behind = k.behind ∙ sym (append_assoc (record_of h) (x ∷ []) rest);
      stand = record {
        voter = voter;
        votes = c.in_ok-enter.ensures.entered s h (Found x told.0) ahead refl current least;
        repair = recalled n s h rest room all k.stand.repair;
        tables = λ low. c.quiet_points_leave_the_tables.ensures low c.args.self.now.tables h (Found x told.0) refl (k.stand.tables low);
      };
      acts = acts;
    })
    c.tell_repair.ensures
