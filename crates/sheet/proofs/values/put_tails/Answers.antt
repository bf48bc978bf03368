-- The eight values take the place of all that lies behind `at`.
use Rattle.std.proofs.Common.{◌≡◌, [], ◌-◌, length, drop, refl, arith, rules, SFits, w32, to_z-of_z, drop_of_length-le, length-drop}
use mathlib.Core.List.{append-nil}
use Rattle.sheet.specs.laws.Receiving.{both_tails}
use Rattle.sheet.proofs.values.put_tails.Goals as goal

pub returns : goal.returns
returns c =
    let old = c.args.values.now in
    let a = c.args.a in
    let b = c.args.b in
    let e : SFits w32 a.sys = search rules in
    let f : SFits w32 a.par = search rules in
    let g : SFits w32 a.par2 = search rules in
    let h : SFits w32 a.sys2 = search rules in
    let i : SFits w32 b.sys = search rules in
    let j : SFits w32 b.par = search rules in
    let k : SFits w32 b.par2 = search rules in
    let l : SFits w32 b.sys2 = search rules in
    let put : c.copy_from_slice.new.self ≡ both_tails a b =
    rw (to_z-of_z e, to_z-of_z f, to_z-of_z g, to_z-of_z h, to_z-of_z i, to_z-of_z j, to_z-of_z k, to_z-of_z l) at c.copy_from_slice.ensures.after in
    let none : drop (length old - c.args.at) (drop c.args.at old) ≡ [] = drop_of_length-le (drop c.args.at old) (omega (arith, length-drop c.args.at old)) in
    rw (put, none, append-nil (both_tails a b)) refl
