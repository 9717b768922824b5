-- What is proved of the rule, and when `moved` finds an exchange of names.
pub mod Theorem
pub mod Exchanges
