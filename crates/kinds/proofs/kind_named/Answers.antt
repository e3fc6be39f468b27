use borrow.Author.Tests.{ne_eqb}
use Rattle.kinds.specs.Kinds.{kind_named}
use Rattle.kinds.proofs.kind_named.Goals as goal

pub returns-in-79462284936530 : goal.returns-in-79462284936530
unfolding kind_named
returns-in-79462284936530 c = rw c.in-79462284936530.is

pub returns-in-92673923630368 : goal.returns-in-92673923630368
unfolding kind_named
returns-in-92673923630368 c = rw c.in-92673923630368.is

pub returns-in-74007878585924 : goal.returns-in-74007878585924
unfolding kind_named
returns-in-74007878585924 c = rw c.in-74007878585924.is

pub returns-in-91600198976325 : goal.returns-in-91600198976325
unfolding kind_named
returns-in-91600198976325 c = rw c.in-91600198976325.is

pub returns-in-82761223717971 : goal.returns-in-82761223717971
unfolding kind_named
returns-in-82761223717971 c = rw c.in-82761223717971.is

pub returns-in-76245606093889 : goal.returns-in-76245606093889
unfolding kind_named
returns-in-76245606093889 c = rw c.in-76245606093889.is

pub returns-in-71834742050642 : goal.returns-in-71834742050642
unfolding kind_named
returns-in-71834742050642 c = rw c.in-71834742050642.is

pub returns-in-90457753534804 : goal.returns-in-90457753534804
unfolding kind_named
returns-in-90457753534804 c = rw c.in-90457753534804.is

pub returns-in-81717361385504 : goal.returns-in-81717361385504
unfolding kind_named
returns-in-81717361385504 c = rw c.in-81717361385504.is

pub returns-in-90457602347595 : goal.returns-in-90457602347595
unfolding kind_named
returns-in-90457602347595 c = rw c.in-90457602347595.is

pub returns-in-91557182195027 : goal.returns-in-91557182195027
unfolding kind_named
returns-in-91557182195027 c = rw c.in-91557182195027.is

pub returns-in-79462601334816 : goal.returns-in-79462601334816
unfolding kind_named
returns-in-79462601334816 c = rw c.in-79462601334816.is

pub returns-in-79462469818400 : goal.returns-in-79462469818400
unfolding kind_named
returns-in-79462469818400 c = rw c.in-79462469818400.is

pub returns-in-91569864922144 : goal.returns-in-91569864922144
unfolding kind_named
returns-in-91569864922144 c = rw c.in-91569864922144.is

pub returns-in-74020965012529 : goal.returns-in-74020965012529
unfolding kind_named
returns-in-74020965012529 c = rw c.in-74020965012529.is

pub returns-in-87214835324977 : goal.returns-in-87214835324977
unfolding kind_named
returns-in-87214835324977 c = rw c.in-87214835324977.is

pub returns-in-87214835324978 : goal.returns-in-87214835324978
unfolding kind_named
returns-in-87214835324978 c = rw c.in-87214835324978.is

pub returns-in-87214835324979 : goal.returns-in-87214835324979
unfolding kind_named
returns-in-87214835324979 c = rw c.in-87214835324979.is

pub returns-in-91548323431729 : goal.returns-in-91548323431729
unfolding kind_named
returns-in-91548323431729 c = rw c.in-91548323431729.is

pub returns-in-91548323431730 : goal.returns-in-91548323431730
unfolding kind_named
returns-in-91548323431730 c = rw c.in-91548323431730.is

pub returns-in-91548323431731 : goal.returns-in-91548323431731
unfolding kind_named
returns-in-91548323431731 c = rw c.in-91548323431731.is

pub returns-in-71830363512864 : goal.returns-in-71830363512864
unfolding kind_named
returns-in-71830363512864 c = rw c.in-71830363512864.is

pub returns-in-79462603510861 : goal.returns-in-79462603510861
unfolding kind_named
returns-in-79462603510861 c = rw c.in-79462603510861.is

pub returns-in-92656707313696 : goal.returns-in-92656707313696
unfolding kind_named
returns-in-92656707313696 c = rw c.in-92656707313696.is

pub returns-in-74007894639444 : goal.returns-in-74007894639444
unfolding kind_named
returns-in-74007894639444 c = rw c.in-74007894639444.is

pub returns-in-84942966244690 : goal.returns-in-84942966244690
unfolding kind_named
returns-in-84942966244690 c = rw c.in-84942966244690.is

pub returns-in-76202452721696 : goal.returns-in-76202452721696
unfolding kind_named
returns-in-76202452721696 c = rw c.in-76202452721696.is

pub returns-in-85002843147296 : goal.returns-in-85002843147296
unfolding kind_named
returns-in-85002843147296 c = rw c.in-85002843147296.is

pub returns-in-76202455680076 : goal.returns-in-76202455680076
unfolding kind_named
returns-in-76202455680076 c = rw c.in-76202455680076.is

pub returns-in_default : goal.returns-in_default
unfolding kind_named
returns-in_default c = let r = c.in_default.in_default-own.rest in
    simp (
      ne_eqb _ _ r.0.0.0.0.0.0.0.0.0.0.0.0.0.0.0.0.0.0.0.0.0.0.0.0.0.0.0.0.1,
      ne_eqb _ _ r.0.0.0.0.0.0.0.0.0.0.0.0.0.0.0.0.0.0.0.0.0.0.0.0.0.0.0.1,
      ne_eqb _ _ r.0.0.0.0.0.0.0.0.0.0.0.0.0.0.0.0.0.0.0.0.0.0.0.0.0.0.1,
      ne_eqb _ _ r.0.0.0.0.0.0.0.0.0.0.0.0.0.0.0.0.0.0.0.0.0.0.0.0.0.1,
      ne_eqb _ _ r.0.0.0.0.0.0.0.0.0.0.0.0.0.0.0.0.0.0.0.0.0.0.0.0.1,
      ne_eqb _ _ r.0.0.0.0.0.0.0.0.0.0.0.0.0.0.0.0.0.0.0.0.0.0.0.1,
      ne_eqb _ _ r.0.0.0.0.0.0.0.0.0.0.0.0.0.0.0.0.0.0.0.0.0.0.1,
      ne_eqb _ _ r.0.0.0.0.0.0.0.0.0.0.0.0.0.0.0.0.0.0.0.0.0.1,
      ne_eqb _ _ r.0.0.0.0.0.0.0.0.0.0.0.0.0.0.0.0.0.0.0.0.1,
      ne_eqb _ _ r.0.0.0.0.0.0.0.0.0.0.0.0.0.0.0.0.0.0.0.1,
      ne_eqb _ _ r.0.0.0.0.0.0.0.0.0.0.0.0.0.0.0.0.0.0.1,
      ne_eqb _ _ r.0.0.0.0.0.0.0.0.0.0.0.0.0.0.0.0.0.1,
      ne_eqb _ _ r.0.0.0.0.0.0.0.0.0.0.0.0.0.0.0.0.1,
      ne_eqb _ _ r.0.0.0.0.0.0.0.0.0.0.0.0.0.0.0.1,
      ne_eqb _ _ r.0.0.0.0.0.0.0.0.0.0.0.0.0.0.1,
      ne_eqb _ _ r.0.0.0.0.0.0.0.0.0.0.0.0.0.1,
      ne_eqb _ _ r.0.0.0.0.0.0.0.0.0.0.0.0.1,
      ne_eqb _ _ r.0.0.0.0.0.0.0.0.0.0.0.1,
      ne_eqb _ _ r.0.0.0.0.0.0.0.0.0.0.1,
      ne_eqb _ _ r.0.0.0.0.0.0.0.0.0.1,
      ne_eqb _ _ r.0.0.0.0.0.0.0.0.1,
      ne_eqb _ _ r.0.0.0.0.0.0.0.1,
      ne_eqb _ _ r.0.0.0.0.0.0.1,
      ne_eqb _ _ r.0.0.0.0.0.1,
      ne_eqb _ _ r.0.0.0.0.1,
      ne_eqb _ _ r.0.0.0.1,
      ne_eqb _ _ r.0.0.1,
      ne_eqb _ _ r.0.1,
      ne_eqb _ _ r.1,
    )
