-- What the two forms of a store differ in (document 02, W-202): form 0, `Old`, and form 1, `New`. Assumes nothing.
use Rattle.std.specs.Prelude.{ℕ, ◌+◌}
use Rattle.form.specs.declared.Form.{Form}
use Rattle.form.specs.declared.Form.TheVariants.{Old, New}

-- "Header byte 10 is 1 in this form, 0 before."
abbrev pub byte_ten : Form → ℕ
byte_ten Old = 0
byte_ten New = 1

-- "a pointer gains its serial: slot 2, serial 4, time 8"
abbrev pub serial_width : Form → ℕ
serial_width Old = 0
serial_width New = 4

abbrev pub pointer_width : Form → ℕ
pointer_width f = 10 + serial_width f

-- the serial in a pointer of this form; form 0 has none there, and it is 0
abbrev pub serial_in : Form → ℕ → ℕ
serial_in Old serial = 0
serial_in New serial = serial

-- next time is the last accepted time and this much
abbrev pub step : Form → ℕ
step Old = 1
step New = 0
