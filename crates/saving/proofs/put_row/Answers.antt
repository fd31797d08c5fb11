-- A row is its first field, then a comma and a field for each further column, then the line break. Assumes nothing.
use Rattle.std.proofs.Common.{◌<◌, arith}
use Rattle.rfc4180.proofs.Writing.{write_first, write_room}
use Rattle.rfc4180.proofs.Saving.{row_begun, row_more, row_done, room_first, room_next, room_last}
use Rattle.saving.proofs.put_row.Goals as goal

pub put_number-at-requires-clause-room : goal.put_number-at-requires-clause-room
put_number-at-requires-clause-room c =
    let row = c.requires.row in
    room_first _ _ _ _ _ _ c.times.ensures.answer (omega arith) c.requires.room

pub loop-j-init : goal.loop-j-init
loop-j-init c =
    let row = c.requires.row in
    record {
      first = row_begun _ _ _ _ _ _ (omega arith) c.times.ensures.answer c.put_number-at.ensures.out c.put_number-at.ensures.answer;
      further = write_first _ _ _;
    }

pub put_field-at-requires-clause-room : goal.put_field-at-requires-clause-room
put_field-at-requires-clause-room c =
    let i = c.loop-j.invariant in
    room_next _ _ _ _ _ _ _ c.times-in-loop-j.ensures.answer (omega arith) (write_room i.further (write_room i.first c.requires.room))

pub loop-j-preserved : goal.loop-j-preserved
loop-j-preserved c = record {
  first = c.loop-j.invariant.first;
  further =
      row_more _ _ _ _ _ (omega arith) c.times-in-loop-j.ensures.answer c.loop-j.invariant.further c.put_field-at.ensures.out c.put_field-at.ensures.answer;
}

pub put_break-requires : goal.put_break-requires
put_break-requires c =
    let i = c.loop-j.invariant in
    let past : c.args.n < c.loop-j.j = omega arith in
    record { room = room_last _ _ _ _ _ _ past (write_room i.further (write_room i.first c.requires.room)) }

pub returns : goal.returns
returns c =
    let i = c.loop-j.invariant in
    let past : c.args.n < c.loop-j.j = omega arith in
    let all = row_done _ _ _ _ past i.first i.further c.put_break.ensures.out c.put_break.ensures.answer in
    record { answer = all.0; text = all.1 }
