-- A frame's format.
-- Assumes nothing.
use Rattle.frame.specs.declared.FrameFormat.{FrameFormat}
use Rattle.frame.specs.Frame.{Frame}

abbrev pub format_of : Frame → FrameFormat
format_of f = record {
  states = f.table.states;
  outputs = f.table.outputs;
  bits = f.bits;
  tail = f.tail;
  first = f.first;
  second = f.second;
}
