-- Statements of theorems: what is proved of the rules.
pub mod Corollaries
pub mod AfterClose
pub mod OneWay
pub mod Readings
pub mod RepeatsOff
pub mod Capacity
pub mod LongerBuffer
