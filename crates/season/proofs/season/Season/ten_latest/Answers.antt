use Rattle.std.proofs.Common.{◌≡◌, [], ◌∷◌, sym, refl, ap, ◌∙◌, arith, length-set}
use Rattle.std.specs.Option.{option_to_list}
use Rattle.tariff.specs.Comparison.{comparable, comparison_days, latest}
use Rattle.season.specs.View.{view}
use Rattle.season.proofs.LatestDays.{another, one_more, latest_before, ten_found, all_before}
use Rattle.season.proofs.Sounds.{sound_of}
use Rattle.season.proofs.season.Season.ten_latest.Goals as goal

pub loop-slot-init : goal.loop-slot-init
unfolding comparison_days
loop-slot-init c = record { ten = refl; within = omega arith; so_far = refl }

pub unwrap-before-requires : goal.unwrap-before-requires
unwrap-before-requires c =
    another (view c.args.self.now) c.args.day c.loop-slot.slot-items c.loop-slot.slot-index c.loop-slot.before (sound_of c.args.self.now) c.requires.stands c.loop-slot-test.true c.loop-slot.invariant.so_far _ c.latest_comparable.ensures

pub overflow_cast-slot : goal.overflow_cast-slot
overflow_cast-slot c =
    let p = comparable (view c.args.self.now) in
    let one : latest p 1 c.loop-slot.before ≡ c.unwrap-before.result ∷ [] = sym c.latest_comparable.ensures ∙ ap option_to_list c.unwrap-before.ensures in
    omega (arith, latest_before p _ _ one, c.loop-slot.invariant.within)

pub loop-slot-preserved : goal.loop-slot-preserved
loop-slot-preserved c =
    let s = view c.args.self.now in
    let days = c.loop-slot.slot-items in
    let n = c.loop-slot.slot-index in
    let inv = c.loop-slot.invariant in
    let one : latest (comparable s) 1 c.loop-slot.before ≡ c.unwrap-before.result ∷ [] = sym c.latest_comparable.ensures ∙ ap option_to_list c.unwrap-before.ensures in
    record {
      ten = length-set days n c.unwrap-before.result ∙ inv.ten;
      within = omega (arith, latest_before (comparable s) _ _ one, inv.within);
      so_far = one_more s c.args.day days n c.loop-slot.before c.unwrap-before.result (omega (arith, inv.ten)) c.loop-slot-test.true one inv.so_far;
    }

pub returns : goal.returns
returns c =
    let s = view c.args.self.now in
    let inv = c.loop-slot.invariant in
    let same = ten_found s c.args.day c.loop-slot.slot-items c.loop-slot.slot-index c.loop-slot.before inv.ten (omega arith) inv.so_far in
    record { is = same; before = rw same (all_before s c.args.day) }
