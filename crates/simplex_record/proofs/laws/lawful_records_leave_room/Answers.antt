use Rattle.simplex_record.proofs.Rooms.{has_room}
use Rattle.simplex_record.proofs.laws.lawful_records_leave_room.Goals as goal

pub returns : goal.returns
returns g c = λ scheme owner before after x lawful. has_room before after x lawful
