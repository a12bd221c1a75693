use Rattle.simplex_member.specs.Setup.{setup_of}
use Rattle.node_core.proofs.layers.Layers.begin.Goals as goal

pub replay-requires : goal.replay-requires
replay-requires g c =
    let ready = c.requires.ready in
    let s = setup_of g.S.Scheme g.L.Elector c.args.config.now c.args.settings.now.scheme.value c.args.elector ready.0 in
    record {
      members = 0;
      s = s;
      found = ready.1.found;
      genesis_is = c.genesis_of.ensures;
      in_time = ready.1.in_time;
      record_is = ready.1.record_is;
      new = c.in_ok-layers.ensures 0 ready.0 ready.1.set_up;
    }

pub returns-in-Ok : goal.returns-in-Ok
returns-in-Ok g c = λ n index found set_up in_time is.
    let s = setup_of g.S.Scheme g.L.Elector c.args.config.now c.args.settings.now.scheme.value c.args.elector index in
    c.in-Ok.ensures n s found c.genesis_of.ensures in_time is (c.in_ok-layers.ensures n index set_up)
