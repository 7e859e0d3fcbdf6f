-- The frames of a text that a server sends.
use Rattle.std.specs.Prelude.{Bool, cond, false, None}
use Rattle.websocket.specs.declared.protocol.frame.header.FrameHeader.{FrameHeader}
use Rattle.websocket.specs.declared.protocol.frame.coding.OpCode.TheVariants as opcode
use Rattle.websocket.specs.declared.protocol.frame.coding.Data.TheVariants.{Continue, Text}

-- the head of a frame: `is_last` is whether it ends its text, and `is_begun` whether another frame came before it
abbrev pub text_header : (is_last is_begun : Bool) → FrameHeader
text_header is_last is_begun = record {
  is_final = is_last;
  rsv1 = false;
  rsv2 = false;
  rsv3 = false;
  opcode = opcode.Data (cond is_begun Continue Text);
  mask = None;
}
