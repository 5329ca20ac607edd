-- A frame as callers see it, and what a caller is answered at a byte.
use Rattle.std.specs.Prelude.{ℕ, ◌-◌, false, List, [], ◌++◌, length, take, drop, replicate, Option, Some, None, Result, Ok, Err}
use Rattle.refusal.specs.declared.Refusal.{Refusal}
use Rattle.types.specs.declared.delimiter.FrameType.TheVariants.{Request}
use Rattle.types.specs.declared.first.MasterRole.TheVariants.{Secondary}
use Rattle.types.specs.declared.address.Address.TheVariants.{Short}
use Rattle.types.specs.Address.{head_length, head_room, read_address}
use Rattle.line.specs.machine.Step.{opening_in}
use Rattle.line.specs.Layout.{Wire, address_of}
use Rattle.line.specs.Events.{Event, silence, found, rejected}
use Rattle.line.specs.machine.Room.{data_room}
use Rattle.line.specs.declared.state.Head.{Head}
use Rattle.line.specs.declared.frame.Frame.{Frame}

-- zeros fill an array of n behind what it holds
abbrev pub padded : ℕ → List ℕ → List ℕ
padded n bs = bs ++ replicate (n - length bs) 0

-- a frame on the line, as it is handed to a caller
abbrev pub frame_of : Wire → Frame
frame_of w = record {
  frame_type = w.opening.frame_type;
  address = read_address w.opening.is_long (address_of w);
  command = w.command;
  «data» = padded data_room w.payload;
  length = length w.payload;
}

-- a frame to start from
abbrev pub no_frame : Frame
no_frame = record {
  frame_type = Request;
  address = Short Secondary false 0;
  command = 0;
  «data» = padded data_room [];
  length = 0;
}

-- the frame that the bytes beside a state hold
abbrev pub wire_at : Head → ℕ → ℕ → List ℕ → Wire
wire_at h command n bs = record {
  opening = opening_in h;
  heading = take (head_length (opening_in h)) bs;
  command = command;
  payload = take n (drop head_room bs);
}

-- what a caller is answered at a byte: silence, a frame, or a refusal
abbrev pub Heard : Type 0
Heard = Result (Option Frame) Refusal

abbrev pub heard_of : Event → Heard
heard_of silence = Ok None
heard_of (found w) = Ok (Some (frame_of w))
heard_of (rejected r) = Err r
