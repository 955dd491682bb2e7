-- The programs are formed and small.
use Rattle.std.proofs.Common.{◌≡◌, [], ◌∷◌, refl, arith, sym, subst}
use Rattle.low_code.specs.Tree.{Program}
use Rattle.test_select.specs.Rows.{IsRow, program, echo, stuck, takes, nests, mark, other, less, sums, letters}

pub echo_row : IsRow (program (echo ∷ []))
echo_row = record {
  formed = record {
    variables_once = (refl, tt);
    sites_once = (refl, tt);
    scoped = (((refl, tt), tt, (refl, tt)), tt);
    calls_in_range = ((omega arith, tt), tt);
    starts = refl;
    literals = record { procedures = ((((tt, omega arith), tt), tt, (tt, tt)), tt); tags = tt };
  };
  few = ((omega arith, omega arith, omega arith), tt);
  width = refl;
  tests = ((omega arith, tt, tt), tt);
  size = omega arith;
  calls = omega arith;
  procedures = omega arith;
  globals = omega arith;
}

pub stuck_row : IsRow (program (stuck ∷ []))
stuck_row = record {
  formed = record {
    variables_once = tt;
    sites_once = tt;
    scoped = ((tt, tt), tt);
    calls_in_range = (tt, tt);
    starts = refl;
    literals = record { procedures = ((omega arith, tt), tt); tags = tt };
  };
  few = ((omega arith, omega arith, omega arith), tt);
  width = refl;
  tests = (tt, tt);
  size = omega arith;
  calls = omega arith;
  procedures = omega arith;
  globals = omega arith;
}

pub takes_row : IsRow (program (takes ∷ []))
takes_row = record {
  formed = record {
    variables_once = (refl, tt);
    sites_once = (refl, tt);
    scoped = ((tt, tt), tt);
    calls_in_range = ((omega arith, tt), tt);
    starts = refl;
    literals = record { procedures = ((omega arith, tt), tt); tags = tt };
  };
  few = ((omega arith, omega arith, omega arith), tt);
  width = refl;
  tests = (tt, tt);
  size = omega arith;
  calls = omega arith;
  procedures = omega arith;
  globals = omega arith;
}

pub nests_row : IsRow (program (nests ∷ []))
nests_row = record {
  formed = record {
    variables_once = tt;
    sites_once = (refl, tt);
    scoped = ((tt, (tt, tt)), tt);
    calls_in_range = ((omega arith, tt), tt);
    starts = refl;
    literals = record { procedures = ((omega arith, (tt, tt)), tt); tags = tt };
  };
  few = ((omega arith, omega arith, omega arith), tt);
  width = refl;
  tests = (tt, tt);
  size = omega arith;
  calls = omega arith;
  procedures = omega arith;
  globals = omega arith;
}

pub marks_row : IsRow (program (mark ∷ other ∷ []))
marks_row = record {
  formed = record {
    variables_once = (refl, (refl, (refl, tt)));
    sites_once = (refl, (refl, tt));
    scoped = (
      ((refl, tt), tt, (((refl, tt), (tt, tt), (tt, (refl, tt))), (refl, tt))),
      ((tt, tt), tt),
    );
    calls_in_range = ((omega arith, (omega arith, tt)), (tt, tt));
    starts = refl;
    literals = record {
      procedures = (
        (
          ((tt, omega arith), tt),
          tt,
          ((((tt, omega arith), tt), (omega arith, tt), (tt, (tt, tt))), (tt, tt)),
        ),
        ((omega arith, tt), tt),
      );
      tags = tt;
    };
  };
  few = ((omega arith, omega arith, omega arith), ((omega arith, omega arith, omega arith), tt));
  width = refl;
  tests = ((omega arith, tt, ((omega arith, tt, tt), tt)), (tt, tt));
  size = omega arith;
  calls = omega arith;
  procedures = omega arith;
  globals = omega arith;
}

pub less_row : IsRow (program (less ∷ []))
less_row = record {
  formed = record {
    variables_once = (refl, (refl, tt));
    sites_once = tt;
    scoped = ((refl, tt, ((refl, tt), (tt, tt), (tt, tt))), tt);
    calls_in_range = (tt, tt);
    starts = refl;
    literals = record {
      procedures =
          ((tt, omega arith, (((tt, omega arith), tt), (omega arith, tt), (omega arith, tt))), tt);
      tags = tt;
    };
  };
  few = ((omega arith, omega arith, omega arith), tt);
  width = refl;
  tests = ((omega arith, tt, tt), tt);
  size = omega arith;
  calls = omega arith;
  procedures = omega arith;
  globals = omega arith;
}

pub letters_row : IsRow (program (letters ∷ []))
letters_row = record {
  formed = record {
    variables_once = (refl, (refl, tt));
    sites_once = (refl, tt);
    scoped = (
      (
        (refl, tt),
        tt,
        (
          (
            (refl, tt),
            (tt, tt),
            (
              (refl, tt),
              (tt, tt),
              (
                (refl, tt),
                (tt, tt),
                (
                  (refl, tt),
                  (tt, tt),
                  (
                    (refl, tt),
                    (tt, tt),
                    (
                      (refl, tt),
                      (tt, tt),
                      ((refl, tt), (tt, tt), ((refl, tt), (tt, tt), ((refl, tt), (tt, tt), (tt, tt)))),
                    ),
                  ),
                ),
              ),
            ),
          ),
          (refl, tt),
        ),
      ),
      tt,
    );
    calls_in_range = ((omega arith, tt), tt);
    starts = refl;
    literals = record {
      procedures = (
        (
          ((tt, omega arith), tt),
          tt,
          (
            (
              ((tt, omega arith), tt),
              (omega arith, tt),
              (
                ((tt, omega arith), tt),
                (omega arith, tt),
                (
                  ((tt, omega arith), tt),
                  (omega arith, tt),
                  (
                    ((tt, omega arith), tt),
                    (omega arith, tt),
                    (
                      ((tt, omega arith), tt),
                      (omega arith, tt),
                      (
                        ((tt, omega arith), tt),
                        (omega arith, tt),
                        (
                          ((tt, omega arith), tt),
                          (omega arith, tt),
                          (
                            ((tt, omega arith), tt),
                            (omega arith, tt),
                            (((tt, omega arith), tt), (omega arith, tt), (omega arith, tt)),
                          ),
                        ),
                      ),
                    ),
                  ),
                ),
              ),
            ),
            (tt, tt),
          ),
        ),
        tt,
      );
      tags = tt;
    };
  };
  few = ((omega arith, omega arith, omega arith), tt);
  width = refl;
  tests = (
    (
      omega arith,
      tt,
      (
        (
          omega arith,
          tt,
          (
            omega arith,
            tt,
            (
              omega arith,
              tt,
              (
                omega arith,
                tt,
                (
                  omega arith,
                  tt,
                  (omega arith, tt, (omega arith, tt, (omega arith, tt, (omega arith, tt, tt)))),
                ),
              ),
            ),
          ),
        ),
        tt,
      ),
    ),
    tt,
  );
  size = omega arith;
  calls = omega arith;
  procedures = omega arith;
  globals = omega arith;
}

-- a program that has one of these trees
pub row_of : (l m : Program) → l ≡ m → IsRow m → IsRow l
row_of l m e h = subst IsRow (sym e) h

pub sums_row : IsRow sums
sums_row = record {
  formed = record {
    variables_once = (
      refl,
      (
        refl,
        (
          refl,
          (
            refl,
            (
              refl,
              (
                refl,
                (
                  refl,
                  (
                    refl,
                    (
                      refl,
                      (
                        refl,
                        (
                          refl,
                          (
                            refl,
                            (refl, (refl, (refl, (refl, (refl, (refl, (refl, (refl, tt)))))))),
                          ),
                        ),
                      ),
                    ),
                  ),
                ),
              ),
            ),
          ),
        ),
      ),
    );
    sites_once = (refl, (refl, (refl, (refl, (refl, (refl, (refl, (refl, tt))))))));
    scoped = (
      (
        (tt, (refl, tt)),
        ((refl, tt), (((refl, tt), (tt, tt), (tt, tt)), ((refl, tt), (refl, tt)))),
      ),
      (
        (
          (refl, tt),
          (refl, tt),
          (refl, tt, (refl, refl, (refl, refl, (refl, tt, (refl, (refl, tt)))))),
        ),
        (
          (refl, ((refl, tt), (tt, tt), (refl, (refl, ((refl, tt), (refl, refl, (refl, tt))))))),
          (
            (refl, tt, ((refl, tt), (refl, tt), (refl, tt, ((refl, tt), (refl, tt, (refl, tt)))))),
            ((refl, tt, (refl, tt)), tt),
          ),
        ),
      ),
    );
    calls_in_range = (
      (omega arith, (omega arith, (omega arith, tt))),
      (
        (omega arith, tt),
        ((omega arith, tt), ((omega arith, (omega arith, (omega arith, tt))), (tt, tt))),
      ),
    );
    starts = (refl, omega arith);
    literals = record {
      procedures = (
        (
          (omega arith, (tt, tt)),
          (
            (tt, tt),
            (
              (((tt, omega arith), tt), (omega arith, tt), (omega arith, tt)),
              ((tt, tt), (tt, tt)),
            ),
          ),
        ),
        (
          (
            ((tt, omega arith), tt),
            (tt, tt),
            (tt, omega arith, (tt, tt, (tt, tt, (tt, omega arith, (tt, (tt, tt)))))),
          ),
          (
            (
              tt,
              (
                ((tt, omega arith), tt),
                (omega arith, tt),
                (tt, (tt, ((tt, tt), (tt, tt, (tt, tt))))),
              ),
            ),
            (
              (
                tt,
                omega arith,
                (
                  ((tt, omega arith), tt),
                  (tt, tt),
                  (tt, omega arith, ((tt, tt), (tt, omega arith, (tt, tt)))),
                ),
              ),
              ((tt, omega arith, (tt, tt)), tt),
            ),
          ),
        ),
      );
      tags = (omega arith, tt);
    };
  };
  few = (
    (omega arith, omega arith, omega arith),
    (
      (omega arith, omega arith, omega arith),
      (
        (omega arith, omega arith, omega arith),
        ((omega arith, omega arith, omega arith), ((omega arith, omega arith, omega arith), tt)),
      ),
    ),
  );
  width = refl;
  tests = (
    ((omega arith, tt, tt), tt),
    ((omega arith, tt, tt), ((omega arith, tt, tt), ((omega arith, tt, tt), (tt, tt)))),
  );
  size = omega arith;
  calls = omega arith;
  procedures = omega arith;
  globals = omega arith;
}
