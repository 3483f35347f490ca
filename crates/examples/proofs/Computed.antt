-- Each example gives its replies and leaves what it says, on cards and on pairs.
use Rattle.std.proofs.Common.{refl}
use Rattle.model.specs.Walk.{walk, runs}
use Rattle.examples.specs.Worked.{ExamplesRight}

pub examples_right : ExamplesRight
unfolding walk runs
examples_right = (
  ((refl, refl), (refl, refl)),
  (
    ((refl, refl), (refl, refl)),
    (
      ((refl, refl), (refl, refl)),
      (
        ((refl, tt), (refl, tt)),
        (
          ((refl, refl), (refl, refl)),
          (
            ((refl, refl), (refl, refl)),
            (
              ((refl, refl), (refl, refl)),
              (
                ((refl, refl), (refl, refl)),
                (
                  ((refl, refl), (refl, refl)),
                  tt,
                ),
              ),
            ),
          ),
        ),
      ),
    ),
  ),
)
