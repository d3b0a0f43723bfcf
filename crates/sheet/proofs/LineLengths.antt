-- Each line has 13 bytes.
use Rattle.std.proofs.Common.{◌≡◌, ℕ, ◌≤◌, min, List, length, take, decimal, sym, ap, ◌∙◌, arith, length-take}
use Rattle.std.specs.Fmt.{signed_decimal}
use Rattle.sheet.specs.declared.line.Call.{Call}
use Rattle.kinds.specs.declared.set_up.SetUp.{SetUp}
use Rattle.sheet.specs.Line.{set_up_letter, set_up_text, call_letter, call_station, call_value, call_text}
use Rattle.columns.proofs.Fields.{line_length}

pub set_up-length : (x : SetUp) → length (set_up_text x) ≡ 13
set_up-length x = line_length (set_up_letter x) x.stations (decimal x.start)

pub call_length : (x : Call) → length (call_text x) ≡ 13
call_length x = line_length (call_letter x) (call_station x) (signed_decimal (call_value x))

-- a text that begins with a line has its 13 bytes
pub has_line : (text line : List ℕ) → length line ≡ 13 → take 13 text ≡ line → 13 ≤ length text
has_line text line n e = let m : min 13 (length text) ≡ 13 = sym (length-take 13 text) ∙ ap length e ∙ n in omega arith
