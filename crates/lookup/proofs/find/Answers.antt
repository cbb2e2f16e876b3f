-- `lookup::find` meets its contract: case by case in the order of refusals.
use Rattle.std.proofs.Common.{false, true, sym, ◌∙◌}
use Rattle.std.proofs.lemmas.Result.{err_from_is_err_and}
use Rattle.lookup.proofs.Holders.{broken_record, broken_cover, in_record, in_cover, in_neither, found_key, found_piece, lost_key}
use Rattle.lookup.proofs.find.Goals as goal

pub returns-in_err-of_record : goal.returns-in_err-of_record
returns-in_err-of_record c =
    let h = c.in_err-of_record.ensures in
    let e = broken_record c.args.«record».now c.args.cover.now c.args.key.now h.0 in
    let p = err_from_is_err_and c.from_residual.result c.from_residual.ensures.1 in
    rw (p.1, p.2) (e.tells ∙ sym h.1, e.holds)

pub returns-in_err-of_cover : goal.returns-in_err-of_cover
returns-in_err-of_cover c =
    let h = c.in_err-of_cover.ensures in
    let e = broken_cover c.args.«record».now c.args.cover.now c.args.key.now c.in_ok-of_record.ensures.0 h.0 in
    let p = err_from_is_err_and c.from_residual-in_err-of_cover.result c.from_residual-in_err-of_cover.ensures.1 in
    rw (p.1, p.2) (e.tells ∙ sym h.1, e.holds)

pub returns-in-Some : goal.returns-in-Some
returns-in-Some c =
    let a = c.args in
    let e = in_record a.«record».now a.cover.now a.key.now c.in_ok-of_record.ensures.0 c.in_ok-of_cover.ensures.0 (found_key a.«record».now a.key.now c.seek.ensures c.in-Some.found c.in-Some.is) in
    (e.tells, e.holds ∙ found_piece a.«record».now a.key.now c.seek.ensures false c.in-Some.found c.in-Some.is)

pub returns-in-Some-seek : goal.returns-in-Some-seek
returns-in-Some-seek c =
    let a = c.args in
    let e = in_cover a.«record».now a.cover.now a.key.now c.in_ok-of_record.ensures.0 c.in_ok-of_cover.ensures.0 (lost_key a.«record».now a.key.now c.seek.ensures c.in-None.is) (found_key a.cover.now a.key.now c.seek-in-None.ensures c.in-Some-seek.found c.in-Some-seek.is) in
    (e.tells, e.holds ∙ found_piece a.cover.now a.key.now c.seek-in-None.ensures true c.in-Some-seek.found c.in-Some-seek.is)

pub returns-in-None-seek : goal.returns-in-None-seek
returns-in-None-seek c =
    let a = c.args in
    let e = in_neither a.«record».now a.cover.now a.key.now c.in_ok-of_record.ensures.0 c.in_ok-of_cover.ensures.0 (lost_key a.«record».now a.key.now c.seek.ensures c.in-None.is) (lost_key a.cover.now a.key.now c.seek-in-None.ensures c.in-None-seek.is) in
    (e.tells, e.holds)
