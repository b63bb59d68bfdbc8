-- `slices::joined` puts the first and then the second, where both fit. Assumes nothing.
use Rattle.std.proofs.Common.{arith}
use Rattle.text.proofs.Copies.{joined_not, joined_holds}
use Rattle.text.proofs.slices.joined.Goals as goal

pub returns-then-n-room : goal.returns-then-n-room
returns-then-n-room c =
    let a = c.args in
    let none = joined_not a.room.now a.a.now a.b.now (omega arith) in
    record { value = none.0; room_after = none.1 }

pub returns-then-b-room : goal.returns-then-b-room
returns-then-b-room c =
    let a = c.args in
    let none = joined_not a.room.now a.a.now a.b.now (omega arith) in
    record { value = none.0; room_after = none.1 }

pub returns : goal.returns
returns c =
    let a = c.args in
    let both = joined_holds a.room.now a.a.now a.b.now c.copy_from_slice.new.self c.copy_from_slice-2.new.self _ (omega arith) c.copy_from_slice.ensures.after c.copy_from_slice-2.ensures.after in
    record { value = both.0; room_after = both.1 }
