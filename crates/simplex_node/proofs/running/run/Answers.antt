use Rattle.simplex_member.specs.Packet.{formats}
use Rattle.simplex_node.proofs.Listed.{all_answers, all_as_many, all_device, all_failed, all_leaves, all_no_device, all_still}
use Rattle.simplex_node.proofs.running.run.Goals as goal

pub returns-clause-answers : goal.returns-clause-answers
returns-clause-answers g c = all_answers g.S.Scheme g.L.Elector g.K.Disk (formats g.D.PartialEq.eq g.D.Write.spelling g.S.Signature.Write.spelling g.S.Certificate.Write.spelling g.D.Read.reading g.S.Signature.Read.reading g.S.Certificate.Read.reading)
    c.args.node.now c.answer_list.new.node c.args.events.items c.answer_list.result c.answer_list.ensures.answers c.answer_list.ensures.no_room

pub returns-clause-failed : goal.returns-clause-failed
returns-clause-failed g c = all_failed g.S.Scheme g.L.Elector g.K.Disk (formats g.D.PartialEq.eq g.D.Write.spelling g.S.Signature.Write.spelling g.S.Certificate.Write.spelling g.D.Read.reading g.S.Signature.Read.reading g.S.Certificate.Read.reading)
    c.args.node.now c.answer_list.new.node c.args.events.items c.answer_list.result c.answer_list.ensures.answers c.answer_list.ensures.no_room

pub returns-clause-refused_if_failed : goal.returns-clause-refused_if_failed
returns-clause-refused_if_failed g c = all_still g.S.Scheme g.L.Elector g.K.Disk (formats g.D.PartialEq.eq g.D.Write.spelling g.S.Signature.Write.spelling g.S.Certificate.Write.spelling g.D.Read.reading g.S.Signature.Read.reading g.S.Certificate.Read.reading)
    c.args.node.now c.answer_list.new.node c.args.events.items c.answer_list.result c.answer_list.ensures.answers c.answer_list.ensures.no_room

pub returns-clause-device : goal.returns-clause-device
returns-clause-device g c = all_device g.S.Scheme g.L.Elector g.K.Disk (formats g.D.PartialEq.eq g.D.Write.spelling g.S.Signature.Write.spelling g.S.Certificate.Write.spelling g.D.Read.reading g.S.Signature.Read.reading g.S.Certificate.Read.reading)
    c.args.node.now c.answer_list.new.node c.args.events.items c.answer_list.result c.answer_list.ensures.answers c.answer_list.ensures.no_room

pub returns-clause-no_device : goal.returns-clause-no_device
returns-clause-no_device g c = all_no_device g.S.Scheme g.L.Elector g.K.Disk (formats g.D.PartialEq.eq g.D.Write.spelling g.S.Signature.Write.spelling g.S.Certificate.Write.spelling g.D.Read.reading g.S.Signature.Read.reading g.S.Certificate.Read.reading)
    c.args.node.now c.answer_list.new.node c.args.events.items c.answer_list.result c.answer_list.ensures.answers c.answer_list.ensures.no_room

pub returns-clause-as_many : goal.returns-clause-as_many
returns-clause-as_many g c = all_as_many g.S.Scheme g.L.Elector g.K.Disk (formats g.D.PartialEq.eq g.D.Write.spelling g.S.Signature.Write.spelling g.S.Certificate.Write.spelling g.D.Read.reading g.S.Signature.Read.reading g.S.Certificate.Read.reading)
    c.args.node.now c.answer_list.new.node c.args.events.items c.answer_list.result c.answer_list.ensures.answers c.answer_list.ensures.no_room

pub returns-clause-any_moment : goal.returns-clause-any_moment
returns-clause-any_moment g c = all_leaves g.S.Scheme g.L.Elector g.K.Disk (formats g.D.PartialEq.eq g.D.Write.spelling g.S.Signature.Write.spelling g.S.Certificate.Write.spelling g.D.Read.reading g.S.Signature.Read.reading g.S.Certificate.Read.reading)
    c.args.node.now c.answer_list.new.node c.args.events.items c.answer_list.result c.answer_list.ensures.answers c.answer_list.ensures.no_room
