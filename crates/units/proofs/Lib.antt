pub mod Firsts
pub mod Signs
pub mod Tables
