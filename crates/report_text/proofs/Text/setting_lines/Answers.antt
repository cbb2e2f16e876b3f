-- `report_text::Text::setting_lines` meets its contract: line by line, with room for each.
use Rattle.std.proofs.Common.{ℕ, ◌≤◌, ◌≡◌, List, [], ◌∷◌, ◌++◌, length, take, drop, ap, sym, ◌∙◌, arith}
use Rattle.counter.specs.declared.Counter.{Counter}
use Rattle.counter.specs.Counter.{address_of}
use Rattle.settings.specs.declared.Look.{Look}
use Rattle.settings.specs.declared.Name.{Name}
use Rattle.settings.specs.Modes.{mode_name, named}
use Rattle.settings.proofs.Names.{name_small}
use Rattle.text.specs.Hex.{hex}
use Rattle.grammar.specs.Sheet.{pins_word, rule_word, rule_digit, eq}
use Rattle.report_text.specs.Words.{control_word, mode_word, start_word, line_of}
use Rattle.report_text.proofs.Texts.{grows_on, lined, room_less, short_left}
use Rattle.report_text.proofs.Values.{two_digits, first_address, name_is, name_long}
use Rattle.report_text.proofs.Text.setting_lines.Goals as goal

-- the mode's name is short
few : (l : Look) (r : Name) → r ≡ named (mode_name l) → length (take r.len r.bytes) ≤ 3
few l r e = rw (name_is l r e) (name_small l)

pub line-requires-2 : goal.line-requires-2
line-requires-2 c =
    let one = short_left _ _ 52 (pins_word ++ eq) (take 2 (drop 2 c.hex-pins.result)) c.requires c.line.ensures (omega (arith, ap (λ (x : List ℕ). length (take 2 (drop 2 x))) c.hex-pins.ensures)) in
    room_less _ one (omega (arith, ap length c.hex-control.ensures))

pub line-requires-3 : goal.line-requires-3
line-requires-3 c =
    let one = short_left _ _ 52 (pins_word ++ eq) (take 2 (drop 2 c.hex-pins.result)) c.requires c.line.ensures (omega (arith, ap (λ (x : List ℕ). length (take 2 (drop 2 x))) c.hex-pins.ensures)) in
    let two = short_left _ _ 39 (control_word ++ eq) c.hex-control.result one c.line-2.ensures (omega (arith, ap length c.hex-control.ensures)) in
    room_less _ two (omega arith)

pub slice_bounds-letters-end : goal.slice_bounds-letters-end
slice_bounds-letters-end c = sym (name_long c.args.settings.look _ c.mode_name-name.ensures)

pub shared_ref_as_front-letters : goal.shared_ref_as_front-letters
shared_ref_as_front-letters c = omega (arith, few c.args.settings.look _ c.mode_name-name.ensures, name_long c.args.settings.look _ c.mode_name-name.ensures)

pub line-requires-4 : goal.line-requires-4
line-requires-4 c =
    let one = short_left _ _ 52 (pins_word ++ eq) (take 2 (drop 2 c.hex-pins.result)) c.requires c.line.ensures (omega (arith, ap (λ (x : List ℕ). length (take 2 (drop 2 x))) c.hex-pins.ensures)) in
    let two = short_left _ _ 39 (control_word ++ eq) c.hex-control.result one c.line-2.ensures (omega (arith, ap length c.hex-control.ensures)) in
    let three = short_left _ _ 26 (rule_word ++ eq) (c.rule_digit.result ∷ []) two c.line-3.ensures (omega arith) in
    room_less _ three (omega (arith, few c.args.settings.look _ c.mode_name-name.ensures))

pub line-requires-5 : goal.line-requires-5
line-requires-5 c =
    let one = short_left _ _ 52 (pins_word ++ eq) (take 2 (drop 2 c.hex-pins.result)) c.requires c.line.ensures (omega (arith, ap (λ (x : List ℕ). length (take 2 (drop 2 x))) c.hex-pins.ensures)) in
    let two = short_left _ _ 39 (control_word ++ eq) c.hex-control.result one c.line-2.ensures (omega (arith, ap length c.hex-control.ensures)) in
    let three = short_left _ _ 26 (rule_word ++ eq) (c.rule_digit.result ∷ []) two c.line-3.ensures (omega arith) in
    let four = short_left _ _ 13 (mode_word ++ eq) (take c.mode_name-name.result.len c.mode_name-name.result.bytes) three c.line-4.ensures (omega (arith, few c.args.settings.look _ c.mode_name-name.ensures)) in
    room_less _ four (omega (arith, ap length c.hex-start.ensures))

pub returns : goal.returns
returns c =
    let s = c.args.settings in
    let p = s.look.pins in
    let pins = lined _ _ (pins_word ++ eq) (hex 2 p) c.line.ensures (ap (λ (x : List ℕ). take 2 (drop 2 x)) (c.hex-pins.ensures ∙ ap (hex 4) c.from.ensures) ∙ two_digits p (omega arith)) in
    let control = lined _ _ (control_word ++ eq) (hex 4 s.word) c.line-2.ensures c.hex-control.ensures in
    let rule = lined _ _ (rule_word ++ eq) (rule_digit s.rule ∷ []) c.line-3.ensures (ap (λ (d : ℕ). d ∷ []) c.rule_digit.ensures) in
    let mode = lined _ _ (mode_word ++ eq) (mode_name s.look) c.line-4.ensures (name_is s.look _ c.mode_name-name.ensures) in
    let start = lined _ _ (start_word ++ eq) (hex 4 (address_of s 0 0)) c.line-5.ensures (c.hex-start.ensures ∙ ap (hex 4) (ap (λ (d : Counter). d.address) c.start-first.ensures ∙ first_address s)) in
    grows_on _ _ _ (line_of pins_word (hex 2 p)) _ pins
    (grows_on _ _ _ (line_of control_word (hex 4 s.word)) _ control
    (grows_on _ _ _ (line_of rule_word (rule_digit s.rule ∷ [])) _ rule
    (grows_on _ _ _ (line_of mode_word (mode_name s.look)) (line_of start_word (hex 4 (address_of s 0 0))) mode start)))
