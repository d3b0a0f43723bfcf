-- Each example is computed.
use Rattle.std.proofs.Common.{refl}
use Rattle.worked_examples.proofs.worked_examples_hold.Goals as goal

pub returns : goal.returns
returns c =
    record {
      trim_by_50 = (refl, refl, refl);
      trim_by_33_and_back = ((refl, refl, refl), (refl, refl, refl));
      trim_down_by_33 = (refl, refl, refl);
      trim_by_1_below_the_ceiling = (refl, refl, refl);
      trim_at_the_ceiling = (refl, refl, refl);
      trim_up_to_the_ceiling_and_over = ((refl, refl, refl), (refl, refl, refl));
      trim_of_less_than_one = ((refl, refl, refl), refl);
      undo_on_an_empty_pile = (refl, refl, refl);
      sign_of_another_setpoint = (refl, refl, refl);
      lone_sign_under_the_fast_lock = (refl, refl);
      lone_trim_under_the_one_bit_lock = refl;
      three_stations_under_the_fast_lock = (refl, refl);
    }
